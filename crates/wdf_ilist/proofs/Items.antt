-- Lemmas on one list of items: who is on it after an item came or went.
use Rattle.std.proofs.Common.{ℕ, zero, suc, ◌≡◌, ◌≢◌, ◌<◌, ◌==◌, Bool, true, false, not, ◌||◌, List, [], ◌∷◌, ◌++◌, length, refl, sym, subst, ap, ◌∙◌, ◌⊎◌, ◌≤◌, inl, inr, arith}
use Rattle.std.proofs.lemmas.Bool.{eqb-true, eqb-false, eq-eqb, ne_eqb, or_parts, and_parts, not-true, cases_eq}
use Rattle.std.proofs.lemmas.List.Recursion.{or_push}
use Rattle.wdf_ilist.specs.Family.{is_on, without, are_distinct}

-- ---- an item goes

-- who isn't on the list can't leave it
without_off_by : (x y : ℕ) (ys : List ℕ) (b : Bool) → (y == x) ≡ b → is_on x (y ∷ ys) ≡ false → (is_on x ys ≡ false → without x ys ≡ ys) → without x (y ∷ ys) ≡ y ∷ ys
without_off_by x y ys true e off rest = absurd (let h : true || is_on x ys ≡ false = rw e at off in let z : ⊥ = cc in z)
without_off_by x y ys false e off rest = rw e (ap (λ zs. y ∷ zs) (rest (rw e at off)))

pub without_off : (x : ℕ) (xs : List ℕ) → is_on x xs ≡ false → without x xs ≡ xs
without_off x [] off = refl
without_off x (y ∷ ys) off = without_off_by x y ys (y == x) refl off (without_off x ys)

off_without_by : (x y : ℕ) (ys : List ℕ) (b : Bool) → (y == x) ≡ b → is_on x (without x ys) ≡ false → is_on x (without x (y ∷ ys)) ≡ false
off_without_by x y ys true e rest = rw e rest
off_without_by x y ys false e rest = rw (e, e) rest

-- the item is gone
pub off_without : (x : ℕ) (xs : List ℕ) → is_on x (without x xs) ≡ false
off_without x [] = refl
off_without x (y ∷ ys) = off_without_by x y ys (y == x) refl (off_without x ys)

on_without_by : (x y z : ℕ) (zs : List ℕ) (b : Bool) → (z == x) ≡ b → y ≢ x → is_on y (without x zs) ≡ is_on y zs → is_on y (without x (z ∷ zs)) ≡ is_on y (z ∷ zs)
on_without_by x y z zs true e other rest =
    let same : z ≡ x = eqb-true z x e in
    let differs : (z == y) ≡ false = ne_eqb z y (λ h. other (cc)) in
    rw (e, differs) rest
on_without_by x y z zs false e other rest = rw e (ap (λ b. (z == y) || b) rest)

-- the others stay
pub on_without : (x y : ℕ) (xs : List ℕ) → y ≢ x → is_on y (without x xs) ≡ is_on y xs
on_without x y [] other = refl
on_without x y (z ∷ zs) other = on_without_by x y z zs (z == x) refl other (on_without x y zs other)

pub first_once : (x : ℕ) (xs : List ℕ) → are_distinct (x ∷ xs) ≡ true → is_on x xs ≡ false
first_once x xs h = not-true (is_on x xs) (and_parts (not (is_on x xs)) (are_distinct xs) h).0

pub rest_distinct : (x : ℕ) (xs : List ℕ) → are_distinct (x ∷ xs) ≡ true → are_distinct xs ≡ true
rest_distinct x xs h = (and_parts (not (is_on x xs)) (are_distinct xs) h).1

length_without_by : (x y : ℕ) (ys : List ℕ) (b : Bool) → (y == x) ≡ b → are_distinct (y ∷ ys) ≡ true → is_on x (y ∷ ys) ≡ true
    → (is_on x ys ≡ true → suc (length (without x ys)) ≡ length ys) → suc (length (without x (y ∷ ys))) ≡ length (y ∷ ys)
length_without_by x y ys true e once on rest =
    let same : y ≡ x = eqb-true y x e in
    let off : is_on x ys ≡ false = subst (λ z. is_on z ys ≡ false) same (first_once y ys once) in
    rw e (ap (λ zs. suc (length zs)) (without_off x ys off))
length_without_by x y ys false e once on rest = rw e (ap suc (rest (rw e at on)))

-- the list is shorter by one
pub length_without : (x : ℕ) (xs : List ℕ) → are_distinct xs ≡ true → is_on x xs ≡ true → suc (length (without x xs)) ≡ length xs
length_without x [] once on = absurd (let z : ⊥ = cc in z)
length_without x (y ∷ ys) once on = length_without_by x y ys (y == x) refl once on (length_without x ys (rest_distinct y ys once))

distinct_without_by : (x y : ℕ) (ys : List ℕ) (b : Bool) → (y == x) ≡ b → are_distinct (y ∷ ys) ≡ true → are_distinct (without x ys) ≡ true → are_distinct (without x (y ∷ ys)) ≡ true
distinct_without_by x y ys true e once rest = rw e rest
distinct_without_by x y ys false e once rest =
    let off : is_on y (without x ys) ≡ false = on_without x y ys (eqb-false y x e) ∙ first_once y ys once in
    rw (e, off) rest

pub distinct_without : (x : ℕ) (xs : List ℕ) → are_distinct xs ≡ true → are_distinct (without x xs) ≡ true
distinct_without x [] once = refl
distinct_without x (y ∷ ys) once = distinct_without_by x y ys (y == x) refl once (distinct_without x ys (rest_distinct y ys once))

-- ---- an item comes

-- who is on a list with an item more
pub on_pushed : (x y : ℕ) (xs : List ℕ) → is_on y (xs ++ x ∷ []) ≡ (is_on y xs || (x == y))
on_pushed x y xs = or_push (is_on y) (λ z. z == y) refl (λ _ _. refl) xs x

eqb_sym : (x y : ℕ) → (y == x) ≡ false → (x == y) ≡ false
eqb_sym x y e = ne_eqb x y (λ h. eqb-false y x e (sym h))

pub distinct_pushed : (x : ℕ) (xs : List ℕ) → is_on x xs ≡ false → are_distinct xs ≡ true → are_distinct (xs ++ x ∷ []) ≡ true
distinct_pushed x [] off once = refl
distinct_pushed x (y ∷ ys) off once =
    let parts = or_parts (y == x) (is_on x ys) off in
    let here : is_on y (ys ++ x ∷ []) ≡ false = rw (on_pushed x y ys, first_once y ys once, eqb_sym x y parts.0) refl in
    rw here (distinct_pushed x ys parts.1 (rest_distinct y ys once))

pub distinct_in_front : (x : ℕ) (xs : List ℕ) → is_on x xs ≡ false → are_distinct xs ≡ true → are_distinct (x ∷ xs) ≡ true
distinct_in_front x xs off once = rw off once

-- ---- how many there may be

below_less : (n y : ℕ) (xs : List ℕ) → ((z : ℕ) → is_on z xs ≡ true → z < suc n) → is_on y (without n xs) ≡ true → (y ≡ n) ⊎ (y ≡ n → ⊥) → y < n
below_less n y xs below on (inl same) =
    let gone : is_on n (without n xs) ≡ false = off_without n xs in
    let here : is_on n (without n xs) ≡ true = subst (λ z. is_on z (without n xs) ≡ true) same on in
    absurd (let z : ⊥ = cc in z)
below_less n y xs below on (inr other) =
    let under : y < suc n = below y (sym (on_without n y xs other) ∙ on) in
    omega arith

length_below_by : (n : ℕ) (xs : List ℕ) (b : Bool) → is_on n xs ≡ b → are_distinct xs ≡ true → ((y : ℕ) → is_on y xs ≡ true → y < suc n)
    → ((ys : List ℕ) → are_distinct ys ≡ true → ((y : ℕ) → is_on y ys ≡ true → y < n) → length ys ≤ n) → length xs ≤ suc n
length_below_by n xs true e once below rest =
    let fewer : length (without n xs) ≤ n = rest (without n xs) (distinct_without n xs once) (λ y on. below_less n y xs below on (cases_eq y n)) in
    let shorter : suc (length (without n xs)) ≡ length xs = length_without n xs once e in
    omega arith
length_below_by n xs false e once below rest =
    let same : without n xs ≡ xs = without_off n xs e in
    let fewer : length xs ≤ n = rest xs once (λ y on. below_less n y xs below (ap (is_on y) same ∙ on) (cases_eq y n)) in
    omega arith

-- distinct items below a bound are no more than the bound
pub length_below : (n : ℕ) (xs : List ℕ) → are_distinct xs ≡ true → ((y : ℕ) → is_on y xs ≡ true → y < n) → length xs ≤ n
length_below zero [] once below = omega arith
length_below zero (x ∷ xs) once below =
    let it : is_on x (x ∷ xs) ≡ true = rw (eq-eqb x x refl) refl in
    absurd (let h : x < 0 = below x it in omega arith)
length_below (suc n) xs once below = length_below_by n xs (is_on n xs) refl once below (length_below n)
