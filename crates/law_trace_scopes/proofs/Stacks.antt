-- The stacks that events give, a processor at a time.
use Rattle.std.proofs.Common.{if◌then◌else◌, ◌≡◌, ℕ, suc, ◌+◌, ◌==◌, nat_lt, Bool, true, false, List, [], ◌∷◌, Some, None, drop, filter, length, map, option_map, refl, sym, ap, ◌∙◌, arith}
use Rattle.std.proofs.lemmas.Bool.{eqb-true}
use Rattle.std.proofs.lemmas.Bool.Decides.{nat_tests}
use Rattle.wdf_model.specs.Tables.{first_of_list}
use Rattle.wdf_model.proofs.Tests.{itself}
use Rattle.wdf_laws.specs.declared.sign.Stacked.{Stacked}
use Rattle.wdf_laws.specs.Frames.{is_on, pushed, top_of, without_at, without_top}

-- the frames of a processor's stack, the top first
abbrev pub told_stack : ℕ → List Stacked → List ℕ
told_stack cpu stacks = map (λ (s : Stacked). s.frame) (filter (is_on cpu) stacks)

kept_first : (c : ℕ) (s : Stacked) (ss : List Stacked) → (s.cpu == c) ≡ true → told_stack c (s ∷ ss) ≡ s.frame ∷ told_stack c ss
kept_first c s ss h = rw h refl

left_first : (c : ℕ) (s : Stacked) (ss : List Stacked) → (s.cpu == c) ≡ false → told_stack c (s ∷ ss) ≡ told_stack c ss
left_first c s ss h = rw h refl

pub pushed_here : (cpu f : ℕ) (ss : List Stacked) → told_stack cpu (pushed cpu f ss) ≡ f ∷ told_stack cpu ss
pushed_here cpu f ss = kept_first cpu (record { cpu = cpu; frame = f }) ss (itself cpu)

pub pushed_apart : (cpu c f : ℕ) (ss : List Stacked) → (cpu == c) ≡ false → told_stack c (pushed cpu f ss) ≡ told_stack c ss
pushed_apart cpu c f ss h = left_first c (record { cpu = cpu; frame = f }) ss h

-- ---- without the top

later_by : (x : Stacked) (ss : List Stacked) (k : ℕ) (b : Bool) → nat_lt k (length ss) ≡ b → without_at (if nat_lt (1 + k) (length (x ∷ ss)) then Some (1 + k) else None) (x ∷ ss) ≡ x ∷ without_at (if nat_lt k (length ss) then Some k else None) ss
later_by x ss k true e =
    let more : nat_lt (1 + k) (length (x ∷ ss)) ≡ true = grind (arith, nat_tests) in
    let one : 1 + k ≡ suc k = omega arith in
    rw (e, more, one) refl
later_by x ss k false e =
    let more : nat_lt (1 + k) (length (x ∷ ss)) ≡ false = grind (arith, nat_tests) in
    rw (e, more) refl

without_here : (cpu : ℕ) (x : Stacked) (ss : List Stacked) → (x.cpu == cpu) ≡ true → without_top cpu (x ∷ ss) ≡ ss
without_here cpu x ss h = rw h (let some_ : nat_lt 0 (length (x ∷ ss)) ≡ true = grind (arith, nat_tests) in rw some_ refl)

without_later : (cpu : ℕ) (x : Stacked) (ss : List Stacked) → (x.cpu == cpu) ≡ false → without_top cpu (x ∷ ss) ≡ x ∷ without_top cpu ss
without_later cpu x ss h = rw h (later_by x ss _ _ refl)

here_by : (cpu : ℕ) (x : Stacked) (ss : List Stacked) (b : Bool) → (x.cpu == cpu) ≡ b → told_stack cpu (without_top cpu ss) ≡ drop 1 (told_stack cpu ss) → told_stack cpu (without_top cpu (x ∷ ss)) ≡ drop 1 (told_stack cpu (x ∷ ss))
here_by cpu x ss true e rest = ap (told_stack cpu) (without_here cpu x ss e) ∙ sym (ap (λ fs. drop 1 fs) (kept_first cpu x ss e))
here_by cpu x ss false e rest = ap (told_stack cpu) (without_later cpu x ss e) ∙ left_first cpu x (without_top cpu ss) e ∙ rest ∙ sym (ap (λ fs. drop 1 fs) (left_first cpu x ss e))

pub popped_here : (cpu : ℕ) (ss : List Stacked) → told_stack cpu (without_top cpu ss) ≡ drop 1 (told_stack cpu ss)
popped_here cpu [] = refl
popped_here cpu (x ∷ ss) = here_by cpu x ss (x.cpu == cpu) refl (popped_here cpu ss)

both_with : (c : ℕ) (x : Stacked) (ss ts : List Stacked) (b : Bool) → (x.cpu == c) ≡ b → told_stack c ss ≡ told_stack c ts → told_stack c (x ∷ ss) ≡ told_stack c (x ∷ ts)
both_with c x ss ts true e same = kept_first c x ss e ∙ ap (λ fs. x.frame ∷ fs) same ∙ sym (kept_first c x ts e)
both_with c x ss ts false e same = left_first c x ss e ∙ same ∙ sym (left_first c x ts e)

apart_by : (cpu c : ℕ) (x : Stacked) (ss : List Stacked) (b : Bool) → (cpu == c) ≡ false → (x.cpu == cpu) ≡ b → told_stack c (without_top cpu ss) ≡ told_stack c ss → told_stack c (without_top cpu (x ∷ ss)) ≡ told_stack c (x ∷ ss)
apart_by cpu c x ss true n e rest =
    let is : x.cpu ≡ cpu = eqb-true x.cpu cpu e in
    let other : (x.cpu == c) ≡ false = ap (λ y. y == c) is ∙ n in
    ap (told_stack c) (without_here cpu x ss e) ∙ sym (left_first c x ss other)
apart_by cpu c x ss false n e rest = ap (told_stack c) (without_later cpu x ss e) ∙ both_with c x (without_top cpu ss) ss (x.cpu == c) refl rest

pub popped_apart : (cpu c : ℕ) (ss : List Stacked) → (cpu == c) ≡ false → told_stack c (without_top cpu ss) ≡ told_stack c ss
popped_apart cpu c [] n = refl
popped_apart cpu c (x ∷ ss) n = apart_by cpu c x ss (x.cpu == cpu) n refl (popped_apart cpu c ss n)

-- ---- the top

top_by : (cpu : ℕ) (x : Stacked) (ss : List Stacked) (b : Bool) → (x.cpu == cpu) ≡ b → option_map (λ (s : Stacked). s.frame) (top_of cpu ss) ≡ first_of_list (told_stack cpu ss)
    → option_map (λ (s : Stacked). s.frame) (top_of cpu (x ∷ ss)) ≡ first_of_list (told_stack cpu (x ∷ ss))
top_by cpu x ss true e rest = rw e refl
top_by cpu x ss false e rest = rw e rest

pub told_top : (cpu : ℕ) (ss : List Stacked) → option_map (λ (s : Stacked). s.frame) (top_of cpu ss) ≡ first_of_list (told_stack cpu ss)
told_top cpu [] = refl
told_top cpu (x ∷ ss) = top_by cpu x ss (x.cpu == cpu) refl (told_top cpu ss)
