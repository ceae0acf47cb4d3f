-- What tests say, in the forms that proofs use.
use Rattle.std.proofs.Common.{if◌then◌else◌, ◌≡◌, ℕ, zero, suc, ◌==◌, nat_lt, Bool, true, false, not, ◌&&◌, ◌||◌, List, [], ◌∷◌, ◌⊎◌, inl, inr, Some, filter, slice_get, refl, arith}
use Rattle.std.proofs.lemmas.Bool.Decides.{nat_tests}
use Rattle.std.proofs.lemmas.Bool.{eq-eqb}
pub use Rattle.std.proofs.lemmas.Bool.{and_from as both, and_left as left_fails, and_right as right_fails, or_left as first, or_right as second}

pub both_left : (a b : Bool) → (a && b) ≡ true → a ≡ true
both_left true b h = refl
both_left false b h = absurd (let z : ⊥ = cc in z)

pub both_right : (a b : Bool) → (a && b) ≡ true → b ≡ true
both_right true b h = h
both_right false b h = absurd (let z : ⊥ = cc in z)

pub all_three : (a b c : Bool) → a ≡ true → b ≡ true → c ≡ true → (a && b && c) ≡ true
all_three a b c p q r = both (a && b) c (both a b p q) r

pub all_four : (a b c d : Bool) → a ≡ true → b ≡ true → c ≡ true → d ≡ true → (a && b && c && d) ≡ true
all_four a b c d p q r s = both (a && b && c) d (all_three a b c p q r) s

pub right_so : (a b : Bool) → a ≡ false → (a || b) ≡ true → b ≡ true
right_so true b h k = absurd (let z : ⊥ = cc in z)
right_so false b h k = k

pub not_true : (a : Bool) → not a ≡ true → a ≡ false
not_true true h = absurd (let z : ⊥ = cc in z)
not_true false h = refl

pub either_false : (a b : Bool) → (a || b) ≡ false → (a ≡ false) × (b ≡ false)
either_false true b h = absurd (let z : ⊥ = cc in z)
either_false false b h = (refl, h)

-- a test is true or false
pub decided : (a : Bool) → (a ≡ true) ⊎ (a ≡ false)
decided true = inl refl
decided false = inr refl

-- what is in a filtered list passes the test
pub in_filter_of : {T : Type 0} (p : T → Bool) (y : T) (ys : List T) (b : Bool) → p y ≡ b
    → ((k : ℕ) (x : T) → slice_get (filter p ys) k ≡ Some x → p x ≡ true)
    → (k : ℕ) (x : T) → slice_get (if b then y ∷ filter p ys else filter p ys) k ≡ Some x → p x ≡ true
in_filter_of p y ys true e rest zero x h = let same : y ≡ x = cc in cc
in_filter_of p y ys true e rest (suc k) x h = rest k x h
in_filter_of p y ys false e rest k x h = rest k x h

pub in_filter : {T : Type 0} (p : T → Bool) (xs : List T) (k : ℕ) (x : T) → slice_get (filter p xs) k ≡ Some x → p x ≡ true
in_filter p [] k x h = absurd (let z : ⊥ = cc in z)
in_filter p (y ∷ ys) k x h = in_filter_of p y ys (p y) refl (in_filter p ys) k x h

pub not_false : (a : Bool) → not a ≡ false → a ≡ true
not_false true h = refl
not_false false h = absurd (let z : ⊥ = cc in z)

pub alone : (a : Bool) → a ≡ true → (a && true) ≡ true
alone true h = refl
alone false h = h

pub not_both : (a b : Bool) → (a && b) ≡ false → (not a || not b) ≡ true
not_both true true h = absurd (let z : ⊥ = cc in z)
not_both true false h = refl
not_both false b h = refl

pub positive : (n : ℕ) → (n == 0) ≡ false → nat_lt 0 n ≡ true
positive n h = grind (arith, nat_tests)

pub itself : (n : ℕ) → (n == n) ≡ true
itself n = eq-eqb n n refl
