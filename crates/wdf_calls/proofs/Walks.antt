-- A walk along a list, from the front on, for an item that passes a test: what is left to be looked at
-- comes to the whole.
use Rattle.std.proofs.Common.{◌≡◌, ℕ, zero, suc, ◌+◌, true, false, Bool, List, [], ◌∷◌, Some, None, slice_get, drop, refl, sym, ap, ◌∙◌, add-one}
use Rattle.std.specs.List.{list_any}

left_at : {T : Type 0} (xs : List T) (k : ℕ) (x : T) → slice_get xs k ≡ Some x → drop k xs ≡ x ∷ drop (suc k) xs
left_at [] k x at = absurd (let z : ⊥ = cc in z)
left_at (y ∷ ys) zero x at = let e : y ≡ x = cc in rw e refl
left_at (y ∷ ys) (suc k) x at = left_at ys k x at

nothing_left : {T : Type 0} (xs : List T) (k : ℕ) → slice_get xs k ≡ None → drop k xs ≡ []
nothing_left [] zero at = refl
nothing_left [] (suc k) at = refl
nothing_left (y ∷ ys) zero at = absurd (let z : ⊥ = cc in z)
nothing_left (y ∷ ys) (suc k) at = nothing_left ys k at

-- the item at k passes
pub walk_finds : {T : Type 0} (p : T → Bool) (xs : List T) (k : ℕ) (x : T) → slice_get xs k ≡ Some x → p x ≡ true → list_any p (drop k xs) ≡ list_any p xs → true ≡ list_any p xs
walk_finds p xs k x at passes left = sym (rw (left_at xs k x at, passes) refl) ∙ left

-- it doesn't
pub walk_goes_on : {T : Type 0} (p : T → Bool) (xs : List T) (k : ℕ) (x : T) → slice_get xs k ≡ Some x → p x ≡ false → list_any p (drop k xs) ≡ list_any p xs → list_any p (drop (k + 1) xs) ≡ list_any p xs
walk_goes_on p xs k x at fails left =
    let here : list_any p (drop k xs) ≡ list_any p (drop (suc k) xs) = rw (left_at xs k x at, fails) refl in
    rw add-one (sym here ∙ left)

-- there is none at k
pub walk_ends : {T : Type 0} (p : T → Bool) (xs : List T) (k : ℕ) → slice_get xs k ≡ None → list_any p (drop k xs) ≡ list_any p xs → false ≡ list_any p xs
walk_ends p xs k at left = sym (ap (list_any p) (nothing_left xs k at)) ∙ left
