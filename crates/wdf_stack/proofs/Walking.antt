-- A walk along a part of a line, and what no request before a place is.
use Rattle.std.proofs.Common.{◌≡◌, ℕ, zero, suc, ◌+◌, ◌-◌, ◌==◌, ◌<◌, ◌≤◌, ◌⊎◌, inl, inr, Bool, true, false, ◌||◌, List, [], ◌∷◌, ◌++◌, filter, length, map, min, Some, None, slice_get, slice_set, refl, sym, ap, ◌∙◌, arith}
use Rattle.std.proofs.lemmas.Bool.{eqb-true}
use Rattle.wdf_base.specs.declared.value.Status.{Status}
use Rattle.wdf_model.specs.declared.stack.Descent.{Descent}
use Rattle.wdf_model.specs.declared.stack.Descent.TheVariants as descent
use Rattle.wdf_model.specs.declared.stack.Forwarded.{Forwarded}
use Rattle.wdf_model.specs.agents.Connector.{cancelled_any, cancelled_one, completed_at, completed_one, is_waiting, passed_on_at, passed_on_one}
use Rattle.wdf_model.proofs.Runs.{split_last}
use Rattle.wdf_dev.proofs.Mapping.{changed_to}
use Rattle.wdf_stack.specs.Line.{IsSetAt, NoneBefore, StaysOutside, stays}
use Rattle.wdf_stack.specs.Spans.{lower_key, number_key, request_key}
use Rattle.wdf_stack.proofs.Placing.{in_filtered, in_mapped, in_set}

-- ---- a part that is changed is all that changes

pub unchanged_before : (f : Forwarded → Forwarded) (xs : List Forwarded) (n : ℕ) → ((place : ℕ) (x : Forwarded) → slice_get xs place ≡ Some x → place < n → f x ≡ x) → changed_to f n xs ≡ xs
unchanged_before f [] zero h = refl
unchanged_before f [] (suc n) h = refl
unchanged_before f (x ∷ xs) zero h = refl
unchanged_before f (x ∷ xs) (suc n) h =
    ap (λ y. y ∷ changed_to f n xs) (h 0 x refl (omega arith)) ∙ ap (λ ys. x ∷ ys) (unchanged_before f xs n (λ place y at l. h (suc place) y at (omega (arith, l))))

pub unchanged_behind : (f : Forwarded → Forwarded) (xs : List Forwarded) (n : ℕ) → ((place : ℕ) (x : Forwarded) → slice_get xs place ≡ Some x → n ≤ place → f x ≡ x) → changed_to f n xs ≡ map f xs
unchanged_behind f [] zero h = refl
unchanged_behind f [] (suc n) h = refl
unchanged_behind f (x ∷ xs) zero h = ap (λ y. y ∷ xs) (sym (h 0 x refl (omega arith))) ∙ ap (λ ys. f x ∷ ys) (unchanged_behind f xs zero (λ place y at l. h (suc place) y at (omega arith)))
unchanged_behind f (x ∷ xs) (suc n) h = ap (λ ys. f x ∷ ys) (unchanged_behind f xs n (λ place y at l. h (suc place) y at (omega (arith, l))))

pub walk_begins : (f : Forwarded → Forwarded) (from to : ℕ) (xs : List Forwarded) → StaysOutside f from to xs → xs ≡ changed_to f from xs
walk_begins f from to xs h = sym (unchanged_before f xs from (λ place x at l. h place x at (inl l)))

pub walk_ends : (f : Forwarded → Forwarded) (from to n : ℕ) (xs : List Forwarded) → StaysOutside f from to xs → to ≤ n → changed_to f n xs ≡ map f xs
walk_ends f from to n xs h past = unchanged_behind f xs n (λ place x at l. h place x at (inr (omega (arith, l, past))))

-- ---- what each change leaves as it is

or_false : (b : Bool) → (b || false) ≡ b
or_false true = refl
or_false false = refl

cancelled_by : (r : ℕ) (f : Forwarded) (b : Bool) → (f.request.id.0 == r) ≡ b → (request_key f ≡ Some r) ⊎ (cancelled_one r f ≡ f)
cancelled_by r f true e = inl (ap Some (eqb-true f.request.id.0 r e))
cancelled_by r f false e = inr (rw e refl)

pub cancel_keeps : (r : ℕ) (f : Forwarded) → (request_key f ≡ Some r) ⊎ (cancelled_one r f ≡ f)
cancel_keeps r f = cancelled_by r f (f.request.id.0 == r) refl

same_descent : (f : Forwarded) (d : Descent) → d ≡ f.descent → record f { descent = d } ≡ f
same_descent f d e = ap (λ x. record f { descent = x }) e

completed_by : (x : ℕ) (s : Status) (f : Forwarded) (d : Descent) → f.descent ≡ d → (lower_key f ≡ Some x) ⊎ (completed_one x s f ≡ f)
completed_by x s f (descent.Below lower number passed) e = by_lower (lower.0 == x) refl
  where
    by_lower : (b : Bool) → (lower.0 == x) ≡ b → (lower_key f ≡ Some x) ⊎ (completed_one x s f ≡ f)
    by_lower true h = inl (rw e (ap Some (eqb-true lower.0 x h)))
    by_lower false h = inr (same_descent f (completed_at x s f.descent) (let z : completed_at x s (descent.Below lower number passed) ≡ descent.Below lower number passed = rw h refl in ap (completed_at x s) e ∙ z ∙ sym e))
completed_by x s f descent.Waiting e = inr (same_descent f (completed_at x s f.descent) (ap (completed_at x s) e ∙ sym e))
completed_by x s f descent.Refused e = inr (same_descent f (completed_at x s f.descent) (ap (completed_at x s) e ∙ sym e))
completed_by x s f (descent.Completed t) e = inr (same_descent f (completed_at x s f.descent) (ap (completed_at x s) e ∙ sym e))

pub complete_keeps : (x : ℕ) (s : Status) (f : Forwarded) → (lower_key f ≡ Some x) ⊎ (completed_one x s f ≡ f)
complete_keeps x s f = completed_by x s f f.descent refl

passed_by : (k : ℕ) (f : Forwarded) (d : Descent) → f.descent ≡ d → (number_key f ≡ Some k) ⊎ (passed_on_one k f ≡ f)
passed_by k f (descent.Below lower number passed) e = by_number (number == k) refl
  where
    by_number : (b : Bool) → (number == k) ≡ b → (number_key f ≡ Some k) ⊎ (passed_on_one k f ≡ f)
    by_number true h = inl (rw e (ap Some (eqb-true number k h)))
    by_number false h = inr (same_descent f (passed_on_at k f.descent) (let z : passed_on_at k (descent.Below lower number passed) ≡ descent.Below lower number passed = rw h (ap (λ b. descent.Below lower number b) (or_false passed)) in ap (passed_on_at k) e ∙ z ∙ sym e))
passed_by k f descent.Waiting e = inr (same_descent f (passed_on_at k f.descent) (ap (passed_on_at k) e ∙ sym e))
passed_by k f descent.Refused e = inr (same_descent f (passed_on_at k f.descent) (ap (passed_on_at k) e ∙ sym e))
passed_by k f (descent.Completed t) e = inr (same_descent f (passed_on_at k f.descent) (ap (passed_on_at k) e ∙ sym e))

pub pass_keeps : (k : ℕ) (f : Forwarded) → (number_key f ≡ Some k) ⊎ (passed_on_one k f ≡ f)
pass_keeps k f = passed_by k f f.descent refl

-- ---- keys that a change leaves, or takes away

-- A change of what becomes of a request.
pub record KeepsKeys (g : Forwarded → Forwarded) : Type 0 where
  pub request : (f : Forwarded) (k : ℕ) → request_key (g f) ≡ Some k → request_key f ≡ Some k
  pub lower : (f : Forwarded) (k : ℕ) → lower_key (g f) ≡ Some k → lower_key f ≡ Some k
  pub number : (f : Forwarded) (k : ℕ) → number_key (g f) ≡ Some k → number_key f ≡ Some k
  pub waiting : (f : Forwarded) → is_waiting (g f) ≡ is_waiting f

cancelled_same : (r : ℕ) (f : Forwarded) (b : Bool) → (f.request.id.0 == r) ≡ b → (request_key (cancelled_one r f) ≡ request_key f) × (lower_key (cancelled_one r f) ≡ lower_key f) × (number_key (cancelled_one r f) ≡ number_key f) × (is_waiting (cancelled_one r f) ≡ is_waiting f)
cancelled_same r f true e = rw e (refl, refl, refl, refl)
cancelled_same r f false e = rw e (refl, refl, refl, refl)

pub cancel_keeps_keys : (r : ℕ) → KeepsKeys (cancelled_one r)
cancel_keeps_keys r = record {
  request = λ f k h. sym (cancelled_same r f (f.request.id.0 == r) refl).0 ∙ h;
  lower = λ f k h. sym (cancelled_same r f (f.request.id.0 == r) refl).1 ∙ h;
  number = λ f k h. sym (cancelled_same r f (f.request.id.0 == r) refl).2 ∙ h;
  waiting = λ f. (cancelled_same r f (f.request.id.0 == r) refl).3;
}

pub cancel_all_keeps_keys : KeepsKeys cancelled_any
cancel_all_keeps_keys = record { request = λ f k h. h; lower = λ f k h. h; number = λ f k h. h; waiting = λ f. refl }

completes_lower : (x : ℕ) (s : Status) (f : Forwarded) (d : Descent) (k : ℕ) → f.descent ≡ d → lower_key (completed_one x s f) ≡ Some k → lower_key f ≡ Some k
completes_lower x s f (descent.Below lower number passed) k e h = by_lower (lower.0 == x) refl
  where
    by_lower : (b : Bool) → (lower.0 == x) ≡ b → lower_key f ≡ Some k
    by_lower true i = absurd (let z : None ≡ Some k = rw (e, i) at h in let w : ⊥ = cc in w)
    by_lower false i = rw e (let z : Some lower.0 ≡ Some k = rw (e, i) at h in z)
completes_lower x s f descent.Waiting k e h = absurd (let z : None ≡ Some k = rw e at h in let w : ⊥ = cc in w)
completes_lower x s f descent.Refused k e h = absurd (let z : None ≡ Some k = rw e at h in let w : ⊥ = cc in w)
completes_lower x s f (descent.Completed t) k e h = absurd (let z : None ≡ Some k = rw e at h in let w : ⊥ = cc in w)

completes_number : (x : ℕ) (s : Status) (f : Forwarded) (d : Descent) (k : ℕ) → f.descent ≡ d → number_key (completed_one x s f) ≡ Some k → number_key f ≡ Some k
completes_number x s f (descent.Below lower number passed) k e h = by_lower (lower.0 == x) refl
  where
    by_lower : (b : Bool) → (lower.0 == x) ≡ b → number_key f ≡ Some k
    by_lower true i = absurd (let z : None ≡ Some k = rw (e, i) at h in let w : ⊥ = cc in w)
    by_lower false i = rw e (let z : Some number ≡ Some k = rw (e, i) at h in z)
completes_number x s f descent.Waiting k e h = absurd (let z : None ≡ Some k = rw e at h in let w : ⊥ = cc in w)
completes_number x s f descent.Refused k e h = absurd (let z : None ≡ Some k = rw e at h in let w : ⊥ = cc in w)
completes_number x s f (descent.Completed t) k e h = absurd (let z : None ≡ Some k = rw e at h in let w : ⊥ = cc in w)

completes_waiting : (x : ℕ) (s : Status) (f : Forwarded) (d : Descent) → f.descent ≡ d → is_waiting (completed_one x s f) ≡ is_waiting f
completes_waiting x s f (descent.Below lower number passed) e = by_lower (lower.0 == x) refl
  where
    by_lower : (b : Bool) → (lower.0 == x) ≡ b → is_waiting (completed_one x s f) ≡ is_waiting f
    by_lower true i = rw (e, i) refl
    by_lower false i = rw (e, i) refl
completes_waiting x s f descent.Waiting e = rw e refl
completes_waiting x s f descent.Refused e = rw e refl
completes_waiting x s f (descent.Completed t) e = rw e refl

pub complete_keeps_keys : (x : ℕ) (s : Status) → KeepsKeys (completed_one x s)
complete_keeps_keys x s = record {
  request = λ f k h. h;
  lower = λ f k h. completes_lower x s f f.descent k refl h;
  number = λ f k h. completes_number x s f f.descent k refl h;
  waiting = λ f. completes_waiting x s f f.descent refl;
}

passes_same : (n : ℕ) (f : Forwarded) (d : Descent) → f.descent ≡ d → (lower_key (passed_on_one n f) ≡ lower_key f) × (number_key (passed_on_one n f) ≡ number_key f) × (is_waiting (passed_on_one n f) ≡ is_waiting f)
passes_same n f (descent.Below lower number passed) e = rw e (refl, refl, refl)
passes_same n f descent.Waiting e = rw e (refl, refl, refl)
passes_same n f descent.Refused e = rw e (refl, refl, refl)
passes_same n f (descent.Completed t) e = rw e (refl, refl, refl)

pub pass_keeps_keys : (n : ℕ) → KeepsKeys (passed_on_one n)
pass_keeps_keys n = record {
  request = λ f k h. h;
  lower = λ f k h. sym (passes_same n f f.descent refl).0 ∙ h;
  number = λ f k h. sym (passes_same n f f.descent refl).1 ∙ h;
  waiting = λ f. (passes_same n f f.descent refl).2;
}

-- ---- what no request before a place is

module _ (p : Forwarded → Bool) (n : ℕ) (xs : List Forwarded) (none : NoneBefore p n xs) where
  pub none_less : (m : ℕ) → NoneBefore p (min n m) xs
  none_less m k x l at = none k x (omega (arith, l)) at

  pub none_mapped : (g : Forwarded → Forwarded) → ((f : Forwarded) → p (g f) ≡ p f) → NoneBefore p n (map g xs)
  none_mapped g same k y l at =
      let it = in_mapped g xs k y at in
      sym (ap p it.is) ∙ same it.item ∙ none k it.item l it.at

  pub none_changed : (g : Forwarded → Forwarded) (from to : ℕ) → StaysOutside g from to xs → NoneBefore p (min n from) (map g xs)
  none_changed g from to outside k y l at =
      let it = in_mapped g xs k y at in
      let same : it.item ≡ y = sym (outside k it.item it.at (inl (omega (arith, l)))) ∙ it.is in
      sym (ap p same) ∙ none k it.item (omega (arith, l)) it.at

  pub none_pushed : (x : Forwarded) → NoneBefore p (min n (length xs)) (xs ++ x ∷ [])
  none_pushed x k y l at = elim (split_last xs x y k at) [
    | inl h ↦ none k y (omega (arith, l)) h.1
    | inr h ↦ let e = h.0 in absurd (omega (arith, l, e))
  ]

  pub none_set : (m : ℕ) (y : Forwarded) → NoneBefore p (min n m) (slice_set xs m y)
  none_set m y k z l at = elim (in_set xs m y k z at) [
    | inl two ↦ let e = two.0 in absurd (omega (arith, l, e))
    | inr was ↦ none k z (omega (arith, l)) was
  ]

  pub none_gone : (r gone : ℕ) → length xs ≡ length (filter (stays r) xs) + gone → NoneBefore p (n - gone) (filter (stays r) xs)
  none_gone r gone long k y l at =
      let it = in_filtered (stays r) xs k y at in
      let h = it.high in
      none it.was y (omega (arith, l, h, long)) it.at

-- also where the request at a place has come further
pub none_there : (p : Forwarded → Bool) (n place : ℕ) (old new : List Forwarded) (d : Descent) → NoneBefore p n old → IsSetAt old new place d → NoneBefore p (min n place) new
none_there p n place old new d none set k z l at = none_set p n old none place (record set.was { descent = d }) k z l (sym (ap (λ xs. slice_get xs k) set.is) ∙ at)
