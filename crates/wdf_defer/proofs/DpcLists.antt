-- Which processor's list has a DPC, and what comes after it there.
use Rattle.std.proofs.Common.{ℕ, zero, suc, ◌≡◌, ◌+◌, ◌<◌, ◌==◌, ◌||◌, Bool, true, false, List, [], ◌∷◌, Option, Some, None, is_some, slice_get, refl, sym, subst, ap, ◌∙◌, arith}
use Rattle.std.specs.Option.{option_and_then}
use Rattle.std.proofs.lemmas.Bool.{eq-eqb, eqb-true}
use Rattle.std.proofs.lemmas.List.Quantifiers.{position-Some}
use Rattle.wdf_model.specs.Tables.{same_id}
use Rattle.wdf_ilist.specs.Family.{Family, is_on, list_at, list_of, first_of, after_on, after_in, are_distinct, AreApart}
use Rattle.wdf_ilist.proofs.Items.{first_once, rest_distinct}
use Rattle.wdf_ilist.proofs.Lists.{off_each, some_list, list_of_first}

-- ---- the list of a DPC

no_list : (x : ℕ) (ls : List (List ℕ)) (q : ℕ) → None ≡ list_of x ls → false ≡ is_on x (list_at ls q)
no_list x ls q e = sym (off_each x ls q (sym (some_list x ls) ∙ ap is_some (sym e)))

other_list : (p q : ℕ) (b : Bool) → (p == q) ≡ b → (p ≡ q → ⊥) → (p == q) ≡ false
other_list p q true e ne = absurd (ne (eqb-true p q e))
other_list p q false e ne = e

same_list : (family : Family) (x p q : ℕ) (b : Bool) → AreApart family → is_on x (list_at family.lists p) ≡ true → is_on x (list_at family.lists q) ≡ b → (p == q) ≡ b
same_list family x p q true a there e = eq-eqb p q (a.apart x p q there e)
same_list family x p q false a there e =
    other_list p q (p == q) refl (λ same. let on : is_on x (list_at family.lists q) ≡ true = subst (λ z. is_on x (list_at family.lists z) ≡ true) same there in let z : ⊥ = cc in z)

pub queued_on : (family : Family) (x q : ℕ) (r : Option ℕ) → AreApart family → r ≡ list_of x family.lists → same_id r q ≡ is_on x (list_at family.lists q)
queued_on family x q None a e = no_list x family.lists q e
queued_on family x q (Some p) a e =
    let found = position-Some (is_on x) family.lists p [] (sym e) in
    same_list family x p q (is_on x (list_at family.lists q)) a found.1 refl

-- ---- the next one

on_list : (x k : ℕ) (xs : List ℕ) → slice_get xs k ≡ Some x → is_on x xs ≡ true
on_list x k [] e = absurd (let z : ⊥ = cc in z)
on_list x zero (y ∷ ys) e = let same : y ≡ x = cc in let it : (y == x) ≡ true = eq-eqb y x same in rw it refl
on_list x (suc k) (y ∷ ys) e = later (y == x) (on_list x k ys e)
  where
    later : (b : Bool) {c : Bool} → c ≡ true → (b || c) ≡ true
    later true e = refl
    later false e = e

pub first_is : (xs : List ℕ) → first_of xs ≡ slice_get xs 0
first_is [] = refl
first_is (x ∷ xs) = refl

not_first : (x y : ℕ) (xs : List ℕ) (b : Bool) → are_distinct (y ∷ xs) ≡ true → is_on x xs ≡ true → (y == x) ≡ b → (y == x) ≡ false
not_first x y xs true once on e =
    let same : y ≡ x = eqb-true y x e in
    let off : is_on x xs ≡ false = subst (λ z. is_on z xs ≡ false) same (first_once y xs once) in
    absurd (let z : ⊥ = cc in z)
not_first x y xs false once on e = e

next_on : (x k : ℕ) (xs : List ℕ) → are_distinct xs ≡ true → slice_get xs k ≡ Some x → after_on x xs ≡ slice_get xs (suc k)
next_on x k [] once e = absurd (let z : ⊥ = cc in z)
next_on x zero (y ∷ ys) once e = let same : y ≡ x = cc in let it : (y == x) ≡ true = eq-eqb y x same in rw it (first_is ys)
next_on x (suc k) (y ∷ ys) once e =
    let it : (y == x) ≡ false = not_first x y ys (y == x) once (on_list x k ys e) refl in
    rw it (next_on x k ys (rest_distinct y ys once) e)

only_list : (family : Family) (x q p : ℕ) (b : Bool) → AreApart family → is_on x (list_at family.lists q) ≡ true → p < q → is_on x (list_at family.lists p) ≡ b → is_on x (list_at family.lists p) ≡ false
only_list family x q p true a on l e = let same : p ≡ q = a.apart x p q e on in absurd (omega arith)
only_list family x q p false a on l e = e

none_after : (xs : List ℕ) (k : ℕ) → slice_get xs k ≡ None → None ≡ slice_get xs (suc k)
none_after [] k e = refl
none_after (x ∷ xs) zero e = absurd (let z : ⊥ = cc in z)
none_after (x ∷ xs) (suc k) e = none_after xs k e

pub after_at : (family : Family) (q k : ℕ) (item : Option ℕ) → AreApart family → item ≡ slice_get (list_at family.lists q) k → option_and_then (λ x. after_in x family.lists) item ≡ slice_get (list_at family.lists q) (k + 1)
after_at family q k None a e = let one : k + 1 ≡ suc k = omega arith in rw one (none_after (list_at family.lists q) k (sym e))
after_at family q k (Some x) a e =
    let one : k + 1 ≡ suc k = omega arith in
    let on = on_list x k (list_at family.lists q) (sym e) in
    let list : list_of x family.lists ≡ Some q = list_of_first x family.lists q on (λ p l. only_list family x q p (is_on x (list_at family.lists p)) a on l refl) in
    rw (one, list) (next_on x k (list_at family.lists q) (a.once q) (sym e))
