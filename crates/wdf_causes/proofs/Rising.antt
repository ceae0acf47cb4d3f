-- The least of a list that rises, and of the part of it that is ahead of one.
use Rattle.std.proofs.Common.{◌≡◌, ◌≢◌, ℕ, suc, ◌≤◌, ◌==◌, not, Bool, true, false, List, [], ◌∷◌, Some, None, fold, take_while, refl, ap, sym, ◌∙◌, arith}
use Rattle.std.proofs.lemmas.Bool.{le-leb}
use Rattle.wdf_maps.specs.Places.{rises}
use Rattle.wdf_maps.proofs.PlacesOfKeys.{rises_low, rises_rest}
use Rattle.wdf_model.specs.Tables.{first_of_list, least, lesser}
use Rattle.wdf_model.proofs.Counts.{equal, not_equal}
use Rattle.wdf_cpu.proofs.Leasts.{take_while_on}

less_stays : (m x : ℕ) → m ≤ x → lesser (Some m) x ≡ Some m
less_stays m x h = rw (le-leb m x h) refl

-- what is less than all of a rising list stays the least
stays : (m low high : ℕ) (xs : List ℕ) → rises (λ x. x) low high xs ≡ true → m ≤ low → fold lesser (Some m) xs ≡ Some m
stays m low high [] h a = refl
stays m low high (x ∷ xs) h a =
    let from = rises_low (λ y. y) low high x xs h in
    ap (λ found. fold lesser found xs) (less_stays m x (omega arith))
    ∙ stays m (suc x) high xs (rises_rest (λ y. y) low high x xs h) (omega arith)

ahead_by : (m r x : ℕ) (xs : List ℕ) (b : Bool) → (x == r) ≡ b → m ≤ x → fold lesser (Some m) (take_while (λ y. not (y == r)) xs) ≡ Some m
    → fold lesser (Some m) (take_while (λ y. not (y == r)) (x ∷ xs)) ≡ Some m
ahead_by m r x xs true e a rest = rw e refl
ahead_by m r x xs false e a rest =
    ap (fold lesser (Some m)) (take_while_on (λ y. not (y == r)) x xs (ap not e))
    ∙ ap (λ found. fold lesser found (take_while (λ y. not (y == r)) xs)) (less_stays m x a)
    ∙ rest

stays_ahead : (m r low high : ℕ) (xs : List ℕ) → rises (λ x. x) low high xs ≡ true → m ≤ low → fold lesser (Some m) (take_while (λ x. not (x == r)) xs) ≡ Some m
stays_ahead m r low high [] h a = refl
stays_ahead m r low high (x ∷ xs) h a =
    let from = rises_low (λ y. y) low high x xs h in
    ahead_by m r x xs (x == r) refl (omega arith) (stays_ahead m r (suc x) high xs (rises_rest (λ y. y) low high x xs h) (omega arith))

-- ---- the front

pub first_is_least : (high : ℕ) (xs : List ℕ) → rises (λ x. x) 0 high xs ≡ true → first_of_list xs ≡ least xs
first_is_least high [] h = refl
first_is_least high (x ∷ xs) h = sym (stays x (suc x) high xs (rises_rest (λ y. y) 0 high x xs h) (omega arith))

pub nobody_ahead : (r : ℕ) (xs : List ℕ) → first_of_list xs ≡ None → None ≡ least (take_while (λ x. not (x == r)) xs)
nobody_ahead r [] e = refl
nobody_ahead r (x ∷ xs) e = absurd (let z : ⊥ = cc in z)

pub first_stops : (r x : ℕ) (xs : List ℕ) → first_of_list xs ≡ Some x → x ≡ r → None ≡ least (take_while (λ y. not (y == r)) xs)
first_stops r x [] e is = absurd (let z : ⊥ = cc in z)
first_stops r x (y ∷ ys) e is = let same : y ≡ x = cc in rw (equal y r (same ∙ is)) refl

pub first_ahead : (high r x : ℕ) (xs : List ℕ) → rises (λ y. y) 0 high xs ≡ true → first_of_list xs ≡ Some x → x ≢ r → Some x ≡ least (take_while (λ y. not (y == r)) xs)
first_ahead high r x [] h e other = absurd (let z : ⊥ = cc in z)
first_ahead high r x (y ∷ ys) h e other =
    let same : y ≡ x = cc in
    let apart : (y == r) ≡ false = not_equal y r (λ is. other (sym same ∙ is)) in
    sym e
    ∙ sym (stays_ahead y r (suc y) high ys (rises_rest (λ z. z) 0 high y ys h) (omega arith))
    ∙ sym (ap least (take_while_on (λ z. not (z == r)) y ys (ap not apart)))
