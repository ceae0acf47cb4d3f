-- Sums over a list, after one element has changed, and where one counts alone.
use Rattle.std.proofs.Common.{◌≡◌, ◌⊎◌, inl, inr, ℕ, zero, suc, ◌+◌, ◌≤◌, ◌<◌, List, [], ◌∷◌, ◌++◌, length, set, refl, ap, sym, arith}
use mathlib.Core.Option.{some, some-injective, some-ne-none}
use lib.ListN.{get_elem?}
use Rattle.wdf_turn.specs.Notes.{total}

module _ {A : Type 0} where
  pub total-set : (f : A → ℕ) (xs : List A) (i : ℕ) (a b : A) → get_elem? xs i ≡ some a → total f (set xs i b) + f a ≡ total f xs + f b
  total-set f [] i a b e = absurd (some-ne-none a (sym e))
  total-set f (x ∷ xs) zero a b e = let h : f x ≡ f a = ap f (some-injective x a e) in omega arith
  total-set f (x ∷ xs) (suc i) a b e = omega (arith, total-set f xs i a b e)

  pub total-append : (f : A → ℕ) (xs ys : List A) → total f (xs ++ ys) ≡ total f xs + total f ys
  total-append f [] ys = omega arith
  total-append f (x ∷ xs) ys = omega (arith, total-append f xs ys)

  pub total-least : (f : A → ℕ) (xs : List A) (i : ℕ) (a : A) → get_elem? xs i ≡ some a → f a ≤ total f xs
  total-least f [] i a e = absurd (some-ne-none a (sym e))
  total-least f (x ∷ xs) zero a e = let h : f x ≡ f a = ap f (some-injective x a e) in omega arith
  total-least f (x ∷ xs) (suc i) a e = omega (arith, total-least f xs i a e)

  -- where nothing counts, f is 0 of each
  none_counts : (f g : A → ℕ) (xs : List A) → total g xs ≡ 0 → ((j : ℕ) (u : A) → get_elem? xs j ≡ some u → g u ≡ 0 → f u ≡ 0) → total f xs ≡ 0
  none_counts f g [] z h = refl
  none_counts f g (x ∷ xs) z h = let a : f x ≡ 0 = h zero x refl (omega arith) in
      let b = none_counts f g xs (omega arith) (λ j. h (suc j)) in omega arith

  -- where one alone counts, the sum of f is that one's
  pub total-one : (f g : A → ℕ) (xs : List A) (i : ℕ) (a : A) → get_elem? xs i ≡ some a → total g xs ≡ g a
      → ((j : ℕ) (u : A) → get_elem? xs j ≡ some u → g u ≡ 0 → f u ≡ 0) → total f xs ≡ f a
  total-one f g [] i a e z h = absurd (some-ne-none a (sym e))
  total-one f g (x ∷ xs) zero a e z h = let p : f x ≡ f a = ap f (some-injective x a e) in let q : g x ≡ g a = ap g (some-injective x a e) in
      let b = none_counts f g xs (omega arith) (λ j. h (suc j)) in omega arith
  total-one f g (x ∷ xs) (suc i) a e z h = let l = total-least g xs i a e in let p : f x ≡ 0 = h zero x refl (omega arith) in
      let b = total-one f g xs i a e (omega arith) (λ j. h (suc j)) in omega arith

  -- an element of a list with one more at its end is one of the list's, or the last
  pub at_end : (xs : List A) (a b : A) (j : ℕ) → get_elem? (xs ++ a ∷ []) j ≡ some b → (get_elem? xs j ≡ some b) ⊎ ((j ≡ length xs) × (a ≡ b))
  at_end [] a b zero e = inr (refl, some-injective a b e)
  at_end [] a b (suc j) e = absurd (some-ne-none b (sym e))
  at_end (x ∷ xs) a b zero e = inl e
  at_end (x ∷ xs) a b (suc j) e = elim (at_end xs a b j e) [ inl t ↦ inl t | inr t ↦ inr (omega (arith, t.0), t.1) ]

  -- a place in a list is below its length
  pub at_below : (xs : List A) (j : ℕ) (b : A) → get_elem? xs j ≡ some b → j < length xs
  at_below [] j b e = absurd (some-ne-none b (sym e))
  at_below (x ∷ xs) zero b e = omega arith
  at_below (x ∷ xs) (suc j) b e = omega (arith, at_below xs j b e)
