-- The places of a number in a list.
use Rattle.std.proofs.Common.{◌≡◌, ◌≢◌, ℕ, zero, suc, ◌+◌, ◌-◌, ◌<◌, ◌≤◌, ◌^◌, ◌==◌, Bool, true, false, List, [], ◌∷◌, length, filter, slice_index, Option, Some, None, IfSome, refl, sym, ap, subst, ◌∙◌, arith}
use Rattle.std.specs.List.{range_with_len}
use Rattle.std.proofs.lemmas.Bool.Decides.{nat_tests}
use Rattle.wdf_plan_index.specs.Places.{IsAtPlace, IsFirstAt, place_of, places_from, places_left}

-- numbers that fail a test are passed over
passed_over : (p : ℕ → Bool) (n from at m : ℕ) → from + n ≡ at → ((j : ℕ) → from ≤ j → j < at → p j ≡ false) → filter p (range_with_len from (n + m)) ≡ filter p (range_with_len at m)
passed_over p zero from at m e fails =
    let same : from ≡ at = omega arith in
    let all : 0 + m ≡ m = omega arith in
    rw (all, same) refl
passed_over p (suc n) from at m e fails =
    let here : p from ≡ false = fails from (omega arith) (omega arith) in
    let more : suc n + m ≡ suc (n + m) = omega arith in
    rw (more, here) (passed_over p n (from + 1) at m (omega arith) (λ j a l. fails j (omega arith) l))

module _ (numbers : List ℕ) (number : ℕ) where
  -- up to the first place of the number there is none
  from_first : (from at : ℕ) → IsFirstAt numbers number from at → places_from numbers number from ≡ places_from numbers number at
  from_first from at first =
      let after = first.after in
      let within = first.within in
      let e : length numbers - from ≡ (at - from) + (length numbers - at) = omega arith in
      rw e (passed_over (λ k. slice_index numbers k == number) (at - from) from at (length numbers - at) (omega arith)
      (λ j a l. let n : slice_index numbers j ≢ number = first.passed j a l in let z : (slice_index numbers j == number) ≡ false = grind (arith, nat_tests) in z))

  at_place : (place : ℕ) → place < length numbers → slice_index numbers place ≡ number → places_from numbers number place ≡ place ∷ places_from numbers number (place + 1)
  at_place place l here =
      let e : length numbers - place ≡ suc (length numbers - (place + 1)) = omega arith in
      let t : (slice_index numbers place == number) ≡ true = grind (arith, nat_tests) in
      rw (e, t) refl

  -- what is left from the first place on
  pub left_is : (from : ℕ) (next : Option ℕ) → IsFirstAt numbers number from (place_of numbers next) → IfSome next (λ k. k < length numbers) → places_left numbers number next ≡ places_from numbers number from
  left_is from None first l =
      let e : length numbers - length numbers ≡ 0 = omega arith in
      let none : places_from numbers number (length numbers) ≡ [] = rw e refl in
      sym (from_first from (length numbers) first ∙ none)
  left_is from (Some place) first l = sym (from_first from place first ∙ at_place place l (first.here l))

  -- the next place is taken
  pub place_taken : (place : ℕ) (next after : Option ℕ) (left : List ℕ) → next ≡ Some place → IsAtPlace numbers number next → places_left numbers number next ≡ left
      → IsFirstAt numbers (slice_index numbers place) (place + 1) (place_of numbers after) → IfSome after (λ k. k < length numbers) → left ≡ place ∷ places_left numbers number after
  place_taken place next after left e at is first within =
      let here = subst (IsAtPlace numbers number) e at in
      let named = subst (λ (n : ℕ). IsFirstAt numbers n (place + 1) (place_of numbers after)) here.2 first in
      sym is ∙ ap (places_left numbers number) e ∙ ap (λ ks. place ∷ ks) (sym (left_is (place + 1) after named within))

  pub place_fits : (place : ℕ) (next : Option ℕ) → next ≡ Some place → IsAtPlace numbers number next → place + 1 < 2 ^ 32
  place_fits place next e at = let here = subst (IsAtPlace numbers number) e at in here.1

pub shorter : (place : ℕ) (left rest : List ℕ) → left ≡ place ∷ rest → length rest < length left
shorter place left rest e = omega (arith, ap length e)
