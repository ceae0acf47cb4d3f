-- The reached timers, as a tick is told to one block of ids after the other.
use Rattle.std.proofs.Common.{ℕ, ◌≡◌, ◌≢◌, ◌⊎◌, inl, inr, ◌+◌, ◌*◌, ◌/◌, ◌%◌, ◌<◌, ◌≤◌, min, Bool, true, false, ◌&&◌, ◌||◌, nat_le, nat_lt, List, length, slice_set, get_or-set_same, get_or-set_other, refl, sym, ap, ◌∙◌, subst, arith}
use Rattle.std.proofs.lemmas.Bool.{cases_Bool, cases_eq, cases_lt, le-leb, leb-true, lt-ltb}
use Rattle.std.proofs.lemmas.Bool.Decides.{nat_tests}
use Rattle.wdf_model.specs.declared.room.TheConstants.{OBJECTS}
use Rattle.wdf_model.specs.Tables.{entry, put}
use Rattle.wdf_model.proofs.Maps.{entry_put_other, entry_put_same}
use Rattle.wdf_model.proofs.Tests.{both}
use Rattle.wdf_sets.specs.Members.{is_in}
use Rattle.wdf_sets.specs.Nexts.{IsNext, NoneFrom}
use Rattle.wdf_defer.specs.Floors.{NEVER, floor_of}
use Rattle.wdf_defer.specs.Reached.{Adds, AreReached, HaveRoom, IsFloor, IsLeast, is_reached_at, told_below}

late : (a b : ℕ) → b < a → nat_le a b ≡ false
late a b l = grind (arith, nat_tests)

or_false : (b : Bool) → b ≡ (b || false)
or_false true = refl
or_false false = refl

or_true : (b : Bool) → (b || true) ≡ true
or_true true = refl
or_true false = refl

-- ---- one block

-- The ids of a block from its first one on, up to one, are told.
pub record AddsUpTo (queued : List Bool) (ticks : List ℕ) (start at now : ℕ) (old new : List Bool) : Type 0 where
  pub inside : (x : ℕ) → start ≤ x → x < at → is_in x new ≡ (is_in x old || is_reached_at queued ticks now x)
  pub outside : (x : ℕ) → (x < start) ⊎ (at ≤ x) → is_in x new ≡ is_in x old

pub record IsLowUpTo (queued : List Bool) (ticks : List ℕ) (start at now floor : ℕ) : Type 0 where
  pub low : (x : ℕ) → start ≤ x → x < at → is_in x queued ≡ true → now < entry 0 ticks x → floor ≤ entry 0 ticks x

module _ (queued : List Bool) (ticks : List ℕ) (now : ℕ) where
  -- what isn't queued isn't reached
  off_reached : (x : ℕ) → is_in x queued ≡ false → is_reached_at queued ticks now x ≡ false
  off_reached x e = rw e refl

  pub none_added : (start : ℕ) (old : List Bool) → AddsUpTo queued ticks start start now old old
  none_added start old = record { inside = λ x above below. absurd (omega arith); outside = λ x out. refl }

  module _ (start at x end : ℕ) (old mid new : List Bool) (from : start ≤ at) (next : IsNext (λ y. is_in y queued) at end x) (so : AddsUpTo queued ticks start at now old mid)
      (here : is_in x new ≡ (is_in x old || is_reached_at queued ticks now x)) (others : (y : ℕ) → y ≢ x → is_in y new ≡ is_in y mid) where
    inside_by : (y : ℕ) → start ≤ y → y < x + 1 → (y < at) ⊎ (at ≤ y) → (y ≡ x) ⊎ (y ≢ x) → is_in y new ≡ (is_in y old || is_reached_at queued ticks now y)
    inside_by y above below (inl less) same = let up = next.after in others y (λ e. absurd (omega arith)) ∙ so.inside y above less
    inside_by y above below (inr more) (inl same) = subst (λ z. is_in z new ≡ (is_in z old || is_reached_at queued ticks now z)) (sym same) here
    inside_by y above below (inr more) (inr other) =
        let off : is_in y queued ≡ false = next.before y more (omega arith) in
        others y other ∙ so.outside y (inr more) ∙ or_false (is_in y old) ∙ ap (λ b. is_in y old || b) (sym (off_reached y off))

    pub one_added : AddsUpTo queued ticks start (x + 1) now old new
    one_added =
        let up = next.after in
        record {
          inside = λ y above below. inside_by y above below (cases_lt y at) (cases_eq y x);
          outside = λ y out. elim out [
            | inl under ↦ others y (λ e. absurd (omega arith)) ∙ so.outside y (inl under)
            | inr over ↦ others y (λ e. absurd (omega arith)) ∙ so.outside y (inr (omega arith))
          ];
        }

  -- the timer found is reached
  pub reached_added : (start at x end : ℕ) (old mid new : List Bool) → start ≤ at → IsNext (λ y. is_in y queued) at end x → AddsUpTo queued ticks start at now old mid
      → entry 0 ticks x ≤ now → x < length mid → new ≡ slice_set mid x true → AddsUpTo queued ticks start (x + 1) now old new
  reached_added start at x end old mid new from next so due there is =
      let on : is_reached_at queued ticks now x ≡ true = both (is_in x queued) (nat_le (entry 0 ticks x) now) next.passes (le-leb (entry 0 ticks x) now due) in
      let set : is_in x new ≡ true = ap (is_in x) is ∙ get_or-set_same mid x true false there in
      one_added start at x end old mid new from next so (set ∙ sym (ap (λ b. is_in x old || b) on ∙ or_true (is_in x old)))
      (λ y other. ap (is_in y) is ∙ get_or-set_other mid x y true false other)

  -- it is due later
  pub later_added : (start at x end : ℕ) (old mid : List Bool) → start ≤ at → IsNext (λ y. is_in y queued) at end x → AddsUpTo queued ticks start at now old mid
      → now < entry 0 ticks x → AddsUpTo queued ticks start (x + 1) now old mid
  later_added start at x end old mid from next so more =
      let up = next.after in
      let off : is_reached_at queued ticks now x ≡ false = ap (λ b. is_in x queued && b) (late (entry 0 ticks x) now more) ∙ and_false (is_in x queued) in
      one_added start at x end old mid mid from next so (so.outside x (inr up) ∙ or_false (is_in x old) ∙ ap (λ b. is_in x old || b) (sym off)) (λ y other. refl)
    where
      and_false : (b : Bool) → (b && false) ≡ false
      and_false true = refl
      and_false false = refl

  pub all_added : (o at : ℕ) (old new : List Bool) → 64 * (o / 64) ≤ at → AddsUpTo queued ticks (64 * (o / 64)) at now old new → NoneFrom (λ y. is_in y queued) at (64 * (o / 64) + 64) → at ≤ 64 * (o / 64) + 64 → Adds queued ticks (o / 64) now old new
  all_added o at old new from so none within = record {
    inside = λ x e. in_block x e (cases_lt x at);
    outside = λ x e. so.outside x (apart x e (cases_lt x (64 * (o / 64))));
  }
    where
      in_block : (x : ℕ) → x / 64 ≡ o / 64 → (x < at) ⊎ (at ≤ x) → is_in x new ≡ (is_in x old || is_reached_at queued ticks now x)
      in_block x e (inl less) = so.inside x (omega arith) less
      in_block x e (inr more) =
          let off : is_in x queued ≡ false = none x more (omega arith) in
          so.outside x (inr more) ∙ or_false (is_in x old) ∙ ap (λ b. is_in x old || b) (sym (off_reached x off))

      apart : (x : ℕ) → x / 64 ≢ o / 64 → (x < 64 * (o / 64)) ⊎ (64 * (o / 64) ≤ x) → (x < 64 * (o / 64)) ⊎ (at ≤ x)
      apart x e (inl less) = inl less
      apart x e (inr more) = inr (beyond x e more (cases_lt x (64 * (o / 64) + 64)))
        where
          beyond : (x : ℕ) → x / 64 ≢ o / 64 → 64 * (o / 64) ≤ x → (x < 64 * (o / 64) + 64) ⊎ (64 * (o / 64) + 64 ≤ x) → at ≤ x
          beyond x e more (inl under) = absurd (e (omega arith))
          beyond x e more (inr over) = omega arith

  -- ---- its floor

  pub no_floor : (start floor : ℕ) → IsLowUpTo queued ticks start start now floor
  no_floor start floor = record { low = λ x above below on more. absurd (omega arith) }

  pub same_floor : (start at x end floor : ℕ) → IsNext (λ y. is_in y queued) at end x → IsLowUpTo queued ticks start at now floor → entry 0 ticks x ≤ now → IsLowUpTo queued ticks start (x + 1) now floor
  same_floor start at x end floor next so due = record { low = λ y above below on more. by y above below on more (cases_lt y at) (cases_eq y x) }
    where
      by : (y : ℕ) → start ≤ y → y < x + 1 → is_in y queued ≡ true → now < entry 0 ticks y → (y < at) ⊎ (at ≤ y) → (y ≡ x) ⊎ (y ≢ x) → floor ≤ entry 0 ticks y
      by y above below on more (inl less) same = so.low y above less on more
      by y above below on more (inr over) (inl same) = absurd (let e : entry 0 ticks y ≡ entry 0 ticks x = ap (entry 0 ticks) same in omega arith)
      by y above below on more (inr over) (inr other) = absurd (let off : is_in y queued ≡ false = next.before y over (omega arith) in let z : ⊥ = cc in z)

  pub lower_floor : (start at x end floor : ℕ) → IsNext (λ y. is_in y queued) at end x → IsLowUpTo queued ticks start at now floor → IsLowUpTo queued ticks start (x + 1) now (min floor (entry 0 ticks x))
  lower_floor start at x end floor next so = record { low = λ y above below on more. by y above below on more (cases_lt y at) (cases_eq y x) }
    where
      by : (y : ℕ) → start ≤ y → y < x + 1 → is_in y queued ≡ true → now < entry 0 ticks y → (y < at) ⊎ (at ≤ y) → (y ≡ x) ⊎ (y ≢ x) → min floor (entry 0 ticks x) ≤ entry 0 ticks y
      by y above below on more (inl less) same = let l = so.low y above less on more in omega arith
      by y above below on more (inr over) (inl same) = let e : entry 0 ticks y ≡ entry 0 ticks x = ap (entry 0 ticks) same in omega arith
      by y above below on more (inr over) (inr other) = absurd (let off : is_in y queued ≡ false = next.before y over (omega arith) in let z : ⊥ = cc in z)

  pub floor_found : (o at floor : ℕ) → IsLowUpTo queued ticks (64 * (o / 64)) at now floor → NoneFrom (λ y. is_in y queued) at (64 * (o / 64) + 64) → IsFloor queued ticks (o / 64) now floor
  floor_found o at floor so none = record { low = λ x e on more. by x e on more (cases_lt x at) }
    where
      by : (x : ℕ) → x / 64 ≡ o / 64 → is_in x queued ≡ true → now < entry 0 ticks x → (x < at) ⊎ (at ≤ x) → floor ≤ entry 0 ticks x
      by x e on more (inl less) = so.low x (omega arith) less on more
      by x e on more (inr over) = absurd (let off : is_in x queued ≡ false = none x over (omega arith) in let z : ⊥ = cc in z)

-- ---- the reached

module _ (queued : List Bool) (ticks : List ℕ) (now seen : ℕ) (later : seen ≤ now) where
  told_yes : (at x : ℕ) → x < at → told_below at now seen x ≡ now
  told_yes at x l = let e : nat_lt x at ≡ true = lt-ltb x at l in rw e refl

  told_no : (at x : ℕ) → at ≤ x → told_below at now seen x ≡ seen
  told_no at x l = let e : nat_lt x at ≡ false = grind (arith, nat_tests) in rw e refl

  within : (x o : ℕ) → (x / 64 ≡ o / 64) → (64 * (o / 64) ≤ x) × (x < 64 * (o / 64) + 64)
  within x o e = (omega arith, omega arith)

  -- outside a block as much is told before it and after
  told_apart : (o x : ℕ) → x / 64 ≢ o / 64 → told_below (64 * (o / 64)) now seen x ≡ told_below (64 * (o / 64) + 64) now seen x
  told_apart o x ne = by (cases_lt x (64 * (o / 64))) (cases_lt x (64 * (o / 64) + 64))
    where
      by : (x < 64 * (o / 64)) ⊎ (64 * (o / 64) ≤ x) → (x < 64 * (o / 64) + 64) ⊎ (64 * (o / 64) + 64 ≤ x) → told_below (64 * (o / 64)) now seen x ≡ told_below (64 * (o / 64) + 64) now seen x
      by (inl less) more = told_yes (64 * (o / 64)) x less ∙ sym (told_yes (64 * (o / 64) + 64) x (omega arith))
      by (inr over) (inl under) = absurd (ne (omega arith))
      by (inr over) (inr past) = told_no (64 * (o / 64)) x over ∙ sym (told_no (64 * (o / 64) + 64) x past)

  -- what is said of told ids is said of the same ticks
  pub told_same : (old new : ℕ → ℕ) (reached : List Bool) (floors : List ℕ) → ((x : ℕ) → is_in x queued ≡ true → old x ≡ new x) → AreReached queued ticks reached floors old → AreReached queued ticks reached floors new
  told_same old new reached floors same a = record {
    due = λ x. a.due x ∙ by x (cases_Bool (is_in x queued));
    low = λ x on more. a.low x on (subst (λ t. t < entry 0 ticks x) (sym (same x on)) more);
  }
    where
      by : (x : ℕ) → (is_in x queued ≡ true) ⊎ (is_in x queued ≡ false) → is_reached_at queued ticks (old x) x ≡ is_reached_at queued ticks (new x) x
      by x (inl on) = ap (λ t. is_reached_at queued ticks t x) (same x on)
      by x (inr off) = rw off refl

  -- a block in which nothing becomes due
  pub block_passed : (reached : List Bool) (floors : List ℕ) (o : ℕ) → now < floor_of floors o → AreReached queued ticks reached floors (told_below (64 * (o / 64)) now seen)
      → AreReached queued ticks reached floors (told_below (64 * (o / 64) + 64) now seen) × IsFloor queued ticks (o / 64) now (floor_of floors o)
  block_passed reached floors o above a = (
    record {
      due = λ x. a.due x ∙ due_by x (cases_eq (x / 64) (o / 64));
      low = λ x on more. low_by x on more (cases_eq (x / 64) (o / 64));
    },
    record { low = λ x e on more. low_in x e on (subst (λ t. t < entry 0 ticks x) (sym (seen_in x e)) (omega arith)) },
  )
    where
      seen_in : (x : ℕ) → x / 64 ≡ o / 64 → told_below (64 * (o / 64)) now seen x ≡ seen
      seen_in x e = told_no (64 * (o / 64)) x (within x o e).0

      now_in : (x : ℕ) → x / 64 ≡ o / 64 → told_below (64 * (o / 64) + 64) now seen x ≡ now
      now_in x e = told_yes (64 * (o / 64) + 64) x (within x o e).1

      low_in : (x : ℕ) → x / 64 ≡ o / 64 → is_in x queued ≡ true → told_below (64 * (o / 64)) now seen x < entry 0 ticks x → floor_of floors o ≤ entry 0 ticks x
      low_in x e on more = subst (λ (t : ℕ). t ≤ entry 0 ticks x) (ap (entry NEVER floors) e) (a.low x on more)

      -- no timer of the block is due after what was told last and not after now
      even : (x : ℕ) → x / 64 ≡ o / 64 → is_in x queued ≡ true → nat_le (entry 0 ticks x) seen ≡ nat_le (entry 0 ticks x) now
      even x e on = by (cases_lt seen (entry 0 ticks x))
        where
          by : (seen < entry 0 ticks x) ⊎ (entry 0 ticks x ≤ seen) → nat_le (entry 0 ticks x) seen ≡ nat_le (entry 0 ticks x) now
          by (inl more) =
              let low = low_in x e on (subst (λ t. t < entry 0 ticks x) (sym (seen_in x e)) more) in
              late (entry 0 ticks x) seen more ∙ sym (late (entry 0 ticks x) now (omega arith))
          by (inr less) = le-leb (entry 0 ticks x) seen less ∙ sym (le-leb (entry 0 ticks x) now (omega arith))

      in_block : (x : ℕ) → x / 64 ≡ o / 64 → (is_in x queued ≡ true) ⊎ (is_in x queued ≡ false) → is_reached_at queued ticks seen x ≡ is_reached_at queued ticks now x
      in_block x e (inl on) = ap (λ b. is_in x queued && b) (even x e on)
      in_block x e (inr off) = rw off refl

      due_by : (x : ℕ) → (x / 64 ≡ o / 64) ⊎ (x / 64 ≢ o / 64) → is_reached_at queued ticks (told_below (64 * (o / 64)) now seen x) x ≡ is_reached_at queued ticks (told_below (64 * (o / 64) + 64) now seen x) x
      due_by x (inl e) =
          ap (λ t. is_reached_at queued ticks t x) (seen_in x e) ∙ in_block x e (cases_Bool (is_in x queued)) ∙ sym (ap (λ t. is_reached_at queued ticks t x) (now_in x e))
      due_by x (inr ne) = ap (λ t. is_reached_at queued ticks t x) (told_apart o x ne)

      low_by : (x : ℕ) → is_in x queued ≡ true → told_below (64 * (o / 64) + 64) now seen x < entry 0 ticks x → (x / 64 ≡ o / 64) ⊎ (x / 64 ≢ o / 64) → floor_of floors x ≤ entry 0 ticks x
      low_by x on more (inl e) =
          let is = now_in x e in
          let past : now < entry 0 ticks x = subst (λ t. t < entry 0 ticks x) is more in
          a.low x on (subst (λ t. t < entry 0 ticks x) (sym (seen_in x e)) (omega arith))
      low_by x on more (inr ne) = a.low x on (subst (λ t. t < entry 0 ticks x) (sym (told_apart o x ne)) more)

  -- a block that was looked at
  pub block_told : (old new : List Bool) (floors : List ℕ) (o floor : ℕ) → AreReached queued ticks old floors (told_below (64 * (o / 64)) now seen)
      → Adds queued ticks (o / 64) now old new → IsFloor queued ticks (o / 64) now floor
      → AreReached queued ticks new (put NEVER floors (o / 64) floor) (told_below (64 * (o / 64) + 64) now seen)
  block_told old new floors o floor a adds low = record {
    due = λ x. due_by x (cases_eq (x / 64) (o / 64));
    low = λ x on more. low_by x on more (cases_eq (x / 64) (o / 64));
  }
    where
      now_in : (x : ℕ) → x / 64 ≡ o / 64 → told_below (64 * (o / 64) + 64) now seen x ≡ now
      now_in x e = told_yes (64 * (o / 64) + 64) x (within x o e).1

      -- what was reached is
      still : (x : ℕ) (b c d : Bool) → (c ≡ true → d ≡ true) → ((b && c) || (b && d)) ≡ (b && d)
      still x true true d h = sym (h refl)
      still x true false d h = refl
      still x false c d h = refl

      rises_on : (t : ℕ) → nat_le t seen ≡ true → nat_le t now ≡ true
      rises_on t h = le-leb t now (omega (arith, leb-true t seen h))

      due_by : (x : ℕ) → (x / 64 ≡ o / 64) ⊎ (x / 64 ≢ o / 64) → is_in x new ≡ is_reached_at queued ticks (told_below (64 * (o / 64) + 64) now seen x) x
      due_by x (inl e) =
          let was : is_in x old ≡ is_reached_at queued ticks seen x = a.due x ∙ ap (λ t. is_reached_at queued ticks t x) (told_no (64 * (o / 64)) x (within x o e).0) in
          adds.inside x e ∙ ap (λ b. b || is_reached_at queued ticks now x) was
          ∙ still x (is_in x queued) (nat_le (entry 0 ticks x) seen) (nat_le (entry 0 ticks x) now) (rises_on (entry 0 ticks x))
          ∙ sym (ap (λ t. is_reached_at queued ticks t x) (now_in x e))
      due_by x (inr ne) = adds.outside x ne ∙ a.due x ∙ ap (λ t. is_reached_at queued ticks t x) (told_apart o x ne)

      low_by : (x : ℕ) → is_in x queued ≡ true → told_below (64 * (o / 64) + 64) now seen x < entry 0 ticks x → (x / 64 ≡ o / 64) ⊎ (x / 64 ≢ o / 64) → floor_of (put NEVER floors (o / 64) floor) x ≤ entry 0 ticks x
      low_by x on more (inl e) =
          let is : floor_of (put NEVER floors (o / 64) floor) x ≡ floor = ap (entry NEVER (put NEVER floors (o / 64) floor)) e ∙ entry_put_same NEVER floors (o / 64) floor in
          subst (λ t. t ≤ entry 0 ticks x) (sym is) (low.low x e on (subst (λ t. t < entry 0 ticks x) (now_in x e) more))
      low_by x on more (inr ne) =
          subst (λ t. t ≤ entry 0 ticks x) (sym (entry_put_other NEVER floors (o / 64) (x / 64) floor ne))
          (a.low x on (subst (λ t. t < entry 0 ticks x) (sym (told_apart o x ne)) more))

  -- ---- all blocks

  -- none is told yet
  pub none_told : (reached : List Bool) (floors : List ℕ) → AreReached queued ticks reached floors (λ o. seen) → AreReached queued ticks reached floors (told_below 0 now seen)
  none_told reached floors a = told_same (λ o. seen) (told_below 0 now seen) reached floors (λ x on. sym (told_no 0 x (omega arith))) a

  -- up to the block of the next queued timer
  pub told_further : (reached : List Bool) (floors : List ℕ) (at x end : ℕ) → at % 64 ≡ 0 → IsNext (λ y. is_in y queued) at end x → AreReached queued ticks reached floors (told_below at now seen) → AreReached queued ticks reached floors (told_below (64 * (x / 64)) now seen)
  told_further reached floors at x end block next a =
      told_same (told_below at now seen) (told_below (64 * (x / 64)) now seen) reached floors (λ y on. by y on (cases_lt y at) (cases_lt y (64 * (x / 64)))) a
    where
      by : (y : ℕ) → is_in y queued ≡ true → (y < at) ⊎ (at ≤ y) → (y < 64 * (x / 64)) ⊎ (64 * (x / 64) ≤ y) → told_below at now seen y ≡ told_below (64 * (x / 64)) now seen y
      by y on (inl less) other = let up = next.after in told_yes at y less ∙ sym (told_yes (64 * (x / 64)) y (omega arith))
      by y on (inr over) (inl under) = absurd (let off : is_in y queued ≡ false = next.before y over (omega arith) in let z : ⊥ = cc in z)
      by y on (inr over) (inr past) = told_no at y over ∙ sym (told_no (64 * (x / 64)) y past)

  -- all are told
  pub all_told : (reached : List Bool) (floors : List ℕ) (at : ℕ) → ((o : ℕ) → is_in o queued ≡ true → o < OBJECTS) → NoneFrom (λ y. is_in y queued) at OBJECTS → AreReached queued ticks reached floors (told_below at now seen) → AreReached queued ticks reached floors (λ o. now)
  all_told reached floors at objects none a = told_same (told_below at now seen) (λ o. now) reached floors (λ y on. by y on (cases_lt y at)) a
    where
      by : (y : ℕ) → is_in y queued ≡ true → (y < at) ⊎ (at ≤ y) → told_below at now seen y ≡ now
      by y on (inl less) = told_yes at y less
      by y on (inr over) = absurd (let off : is_in y queued ≡ false = none y over (objects y on) in let z : ⊥ = cc in z)

module _ (queued : List Bool) (ticks : List ℕ) (now : ℕ) where
  pub no_least : (least : ℕ) → IsLeast queued ticks 0 now least
  no_least least = record { low = λ x below on more. absurd (omega arith) }

  -- the least of one block more
  pub least_further : (at x end least floor : ℕ) → at % 64 ≡ 0 → IsNext (λ y. is_in y queued) at end x → IsLeast queued ticks at now least → IsFloor queued ticks (x / 64) now floor → IsLeast queued ticks (64 * (x / 64) + 64) now (min least floor)
  least_further at x end least floor block next so low = record { low = λ y below on more. by y below on more (cases_lt y at) (cases_lt y (64 * (x / 64))) }
    where
      by : (y : ℕ) → y < 64 * (x / 64) + 64 → is_in y queued ≡ true → now < entry 0 ticks y → (y < at) ⊎ (at ≤ y) → (y < 64 * (x / 64)) ⊎ (64 * (x / 64) ≤ y) → min least floor ≤ entry 0 ticks y
      by y below on more (inl less) other = let l = so.low y less on more in omega arith
      by y below on more (inr over) (inl under) = absurd (let off : is_in y queued ≡ false = next.before y over (omega arith) in let z : ⊥ = cc in z)
      by y below on more (inr over) (inr past) = let l = low.low y (omega arith) on more in omega arith

  pub least_found : (at end least : ℕ) → NoneFrom (λ y. is_in y queued) at end → IsLeast queued ticks at now least → IsLeast queued ticks end now least
  least_found at end least none so = record { low = λ y below on more. by y below on more (cases_lt y at) }
    where
      by : (y : ℕ) → y < end → is_in y queued ≡ true → now < entry 0 ticks y → (y < at) ⊎ (at ≤ y) → least ≤ entry 0 ticks y
      by y below on more (inl less) = so.low y less on more
      by y below on more (inr over) = absurd (let off : is_in y queued ≡ false = none y over below in let z : ⊥ = cc in z)

-- the room stays
pub room_kept : (queued old new : List Bool) → HaveRoom queued old → length new ≡ length old → HaveRoom queued new
room_kept queued old new h e = let more = h.reached_room in record { objects = h.objects; queued_room = h.queued_room; reached_room = omega arith }

-- a tick at which none becomes due
module _ (queued reached : List Bool) (ticks floors : List ℕ) (seen now least : ℕ) (objects : (o : ℕ) → is_in o queued ≡ true → o < OBJECTS) (early : seen ≤ now) (above : now < least) (l : IsLeast queued ticks OBJECTS seen least) where
  pub passed_over : AreReached queued ticks reached floors (λ o. seen) → AreReached queued ticks reached floors (λ o. now)
  passed_over a = record {
    due = λ x. a.due x ∙ by x (cases_Bool (is_in x queued));
    low = λ x on more. a.low x on (omega arith);
  }
    where
      even : (x : ℕ) → is_in x queued ≡ true → (seen < entry 0 ticks x) ⊎ (entry 0 ticks x ≤ seen) → nat_le (entry 0 ticks x) seen ≡ nat_le (entry 0 ticks x) now
      even x on (inl more) = let low = l.low x (objects x on) on more in late (entry 0 ticks x) seen more ∙ sym (late (entry 0 ticks x) now (omega arith))
      even x on (inr less) = le-leb (entry 0 ticks x) seen less ∙ sym (le-leb (entry 0 ticks x) now (omega arith))

      by : (x : ℕ) → (is_in x queued ≡ true) ⊎ (is_in x queued ≡ false) → is_reached_at queued ticks seen x ≡ is_reached_at queued ticks now x
      by x (inl on) = ap (λ b. is_in x queued && b) (even x on (cases_lt seen (entry 0 ticks x)))
      by x (inr off) = rw off refl

  pub least_stays : IsLeast queued ticks OBJECTS now least
  least_stays = record { low = λ x below on more. l.low x below on (omega arith) }
