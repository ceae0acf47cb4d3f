-- The item after another, by its place on the list.
use Rattle.std.proofs.Common.{ℕ, zero, suc, ◌≡◌, ◌+◌, ◌<◌, ◌==◌, Bool, true, false, List, [], ◌∷◌, Option, Some, slice_get, refl, ap, ◌∙◌, arith}
use Rattle.std.proofs.lemmas.Bool.{eqb-true, eq-eqb, or_right}
use Rattle.wdf_ilist.specs.Family.{Family, AreApart, after_in, after_on, are_distinct, first_of, is_on, list_at, list_of}
use Rattle.wdf_ilist.proofs.Items.{first_once, rest_distinct}
use Rattle.wdf_ilist.proofs.Lists.{list_of_first}

-- ---- on one list

-- what is at a place is on the list
pub on_at : (xs : List ℕ) (k x : ℕ) → slice_get xs k ≡ Some x → is_on x xs ≡ true
on_at [] k x e = absurd (let z : ⊥ = cc in z)
on_at (y ∷ ys) zero x e = let same : y ≡ x = cc in rw (eq-eqb y x same) refl
on_at (y ∷ ys) (suc k) x e = or_right (y == x) (is_on x ys) (on_at ys k x e)

pub first_at : (xs : List ℕ) → first_of xs ≡ slice_get xs 0
first_at [] = refl
first_at (x ∷ xs) = refl

after_by : (x y : ℕ) (ys : List ℕ) (found : Option ℕ) (b : Bool) → (y == x) ≡ b → is_on y ys ≡ false → is_on x ys ≡ true
    → after_on x ys ≡ found → after_on x (y ∷ ys) ≡ found
after_by x y ys found true e off on rest =
    let same : y ≡ x = eqb-true y x e in
    let there : is_on y ys ≡ true = ap (λ z. is_on z ys) same ∙ on in
    absurd (let z : ⊥ = cc in z)
after_by x y ys found false e off on rest = rw e rest

-- the item at the next place
after_at : (xs : List ℕ) (k x : ℕ) → are_distinct xs ≡ true → slice_get xs k ≡ Some x → after_on x xs ≡ slice_get xs (k + 1)
after_at [] k x once e = absurd (let z : ⊥ = cc in z)
after_at (y ∷ ys) zero x once e = let same : y ≡ x = cc in rw (eq-eqb y x same) (first_at ys)
after_at (y ∷ ys) (suc k) x once e =
    let step : suc k + 1 ≡ suc (k + 1) = omega arith in
    rw step (after_by x y ys (slice_get ys (k + 1)) (y == x) refl (first_once y ys once) (on_at ys k x e) (after_at ys k x (rest_distinct y ys once) e))

-- ---- among the lists

off_before : (family : Family) (x q p : ℕ) (b : Bool) → AreApart family → is_on x (list_at family.lists q) ≡ true → p < q
    → is_on x (list_at family.lists p) ≡ b → is_on x (list_at family.lists p) ≡ false
off_before family x q p true a on h e = absurd (let same : p ≡ q = a.apart x p q e on in omega arith)
off_before family x q p false a on h e = e

-- the list of an item that is at a place of one
pub owner_at : (family : Family) (q k x : ℕ) → AreApart family → slice_get (list_at family.lists q) k ≡ Some x → list_of x family.lists ≡ Some q
owner_at family q k x a e =
    let on = on_at (list_at family.lists q) k x e in
    list_of_first x family.lists q on (λ p h. off_before family x q p (is_on x (list_at family.lists p)) a on h refl)

-- the item at the next place of its list
pub next_at : (family : Family) (q k x : ℕ) → AreApart family → slice_get (list_at family.lists q) k ≡ Some x
    → after_in x family.lists ≡ slice_get (list_at family.lists q) (k + 1)
next_at family q k x a e =
    rw (owner_at family q k x a e) (after_at (list_at family.lists q) k x (a.once q) e)
