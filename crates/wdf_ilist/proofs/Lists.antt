-- Lemmas on the lists of a family, for this crate and those that keep one: which list has an item,
-- and what the lists are where an item went.
use Rattle.std.proofs.Common.{ℕ, zero, suc, ◌≡◌, ◌≢◌, ◌⊎◌, ◌+◌, ◌<◌, ◌==◌, nat_lt, Bool, true, false, cond, List, [], ◌∷◌, length, map, drop, replicate, slice_set, length-set, get_or-set_same, get_or-set_other, Some, None, is_some, refl, sym, subst, ap, ◌∙◌, inl, inr, arith}
use Rattle.std.specs.List.{position_or_len}
use Rattle.std.proofs.lemmas.Bool.{eq-eqb, cases_eq, lt-ltb, or_right, or_parts}
use Rattle.std.proofs.lemmas.List.Quantifiers.{position-Some}
use Rattle.std.proofs.lemmas.Bool.Decides.{nat_tests}
use Rattle.std.proofs.lemmas.List.{ext_get_or, length-map}
use Rattle.wdf_ilist.specs.Family.{Family, is_on, is_on_any, list_at, list_of, without, first_of, are_distinct, AreApart}
use Rattle.wdf_ilist.proofs.Items.{without_off, first_once}

-- ---- lists that are empty again

-- as many as there were
pub cleared : (old new : Family) (n m : ℕ) → length old.lists ≡ n → old.items ≡ m → new ≡ record { lists = replicate (length old.lists) []; items = old.items } → new ≡ record { lists = replicate n []; items = m }
cleared old new n m lists items e = e ∙ rw (lists, items) refl

-- ---- on any of the lists

pub off_each : (x : ℕ) (ls : List (List ℕ)) (q : ℕ) → is_on_any x ls ≡ false → is_on x (list_at ls q) ≡ false
off_each x [] q off = refl
off_each x (ys ∷ ls) zero off = (or_parts (is_on x ys) (is_on_any x ls) off).0
off_each x (ys ∷ ls) (suc q) off = off_each x ls q (or_parts (is_on x ys) (is_on_any x ls) off).1

pub off_all : (x : ℕ) (ls : List (List ℕ)) → ((q : ℕ) → is_on x (list_at ls q) ≡ false) → is_on_any x ls ≡ false
off_all x [] off = refl
off_all x (ys ∷ ls) off = rw (off 0) (off_all x ls (λ q. off (suc q)))

pub on_any : (x : ℕ) (ls : List (List ℕ)) (q : ℕ) → is_on x (list_at ls q) ≡ true → is_on_any x ls ≡ true
on_any x [] q on = on
on_any x (ys ∷ ls) zero on = rw on refl
on_any x (ys ∷ ls) (suc q) on = or_right (is_on x ys) (is_on_any x ls) (on_any x ls q on)

-- ---- the list of an item

first_place_by : (x : ℕ) (ys : List ℕ) (ls : List (List ℕ)) (b : Bool) → is_on x ys ≡ b → nat_lt (position_or_len (is_on x) ls) (length ls) ≡ is_on_any x ls
    → nat_lt (position_or_len (is_on x) (ys ∷ ls)) (length (ys ∷ ls)) ≡ is_on_any x (ys ∷ ls)
first_place_by x ys ls true e rest = rw e (lt-ltb 0 (suc (length ls)) (omega arith))
first_place_by x ys ls false e rest = rw e (further (position_or_len (is_on x) ls) (length ls) ∙ rest)
  where
    further : (a b : ℕ) → nat_lt (1 + a) (suc b) ≡ nat_lt a b
    further a b = grind (arith, nat_tests)

-- there is a first list that has the item where any has it
first_place : (x : ℕ) (ls : List (List ℕ)) → nat_lt (position_or_len (is_on x) ls) (length ls) ≡ is_on_any x ls
first_place x [] = refl
first_place x (ys ∷ ls) = first_place_by x ys ls (is_on x ys) refl (first_place x ls)

some_by : (b : Bool) (n : ℕ) → is_some (cond b (Some n) None) ≡ b
some_by true n = refl
some_by false n = refl

pub some_list : (x : ℕ) (ls : List (List ℕ)) → is_some (list_of x ls) ≡ is_on_any x ls
some_list x ls = some_by (nat_lt (position_or_len (is_on x) ls) (length ls)) (position_or_len (is_on x) ls) ∙ first_place x ls

position_at : (x : ℕ) (ls : List (List ℕ)) (q : ℕ) → is_on x (list_at ls q) ≡ true → ((p : ℕ) → p < q → is_on x (list_at ls p) ≡ false) → position_or_len (is_on x) ls ≡ q
position_at x [] q on before = absurd (let z : ⊥ = cc in z)
position_at x (ys ∷ ls) zero on before = rw on refl
position_at x (ys ∷ ls) (suc q) on before =
    let first : is_on x ys ≡ false = before 0 (omega arith) in
    let rest : position_or_len (is_on x) ls ≡ q = position_at x ls q on (λ p h. before (suc p) (omega arith)) in
    rw first (omega arith)

pub list_of_none : (x : ℕ) (ls : List (List ℕ)) → is_on_any x ls ≡ false → list_of x ls ≡ None
list_of_none x ls off = rw (first_place x ls, off) refl

pub list_of_first : (x : ℕ) (ls : List (List ℕ)) (q : ℕ) → is_on x (list_at ls q) ≡ true → ((p : ℕ) → p < q → is_on x (list_at ls p) ≡ false) → list_of x ls ≡ Some q
list_of_first x ls q on before = rw (first_place x ls, on_any x ls q on) (ap Some (position_at x ls q on before))

-- the list of an item has it
pub on_list_of : (x : ℕ) (ls : List (List ℕ)) (q : ℕ) → list_of x ls ≡ Some q → is_on x (list_at ls q) ≡ true
on_list_of x ls q e = (position-Some (is_on x) ls q [] e).1

-- ---- the first item

pub first_is_on : (x : ℕ) (xs : List ℕ) → first_of xs ≡ Some x → is_on x xs ≡ true
first_is_on x [] e = absurd (let z : ⊥ = cc in z)
first_is_on x (y ∷ ys) e = let same : y ≡ x = cc in let it : (y == x) ≡ true = eq-eqb y x same in rw it refl

first_leaves : (x : ℕ) (xs : List ℕ) → are_distinct xs ≡ true → first_of xs ≡ Some x → without x xs ≡ drop 1 xs
first_leaves x [] once e = absurd (let z : ⊥ = cc in z)
first_leaves x (y ∷ ys) once e =
    let same : y ≡ x = cc in
    let off : is_on x ys ≡ false = subst (λ z. is_on z ys ≡ false) same (first_once y ys once) in
    let it : (y == x) ≡ true = eq-eqb y x same in
    rw it (without_off x ys off)

-- ---- an item goes

pub map_at : (f : List ℕ → List ℕ) (ls : List (List ℕ)) (q : ℕ) → f [] ≡ [] → list_at (map f ls) q ≡ f (list_at ls q)
map_at f [] q e = sym e
map_at f (xs ∷ ls) zero e = refl
map_at f (xs ∷ ls) (suc q) e = map_at f ls q e

-- where an item is on no list none of them changes
pub none_leaves : (x : ℕ) (ls : List (List ℕ)) → is_on_any x ls ≡ false → map (without x) ls ≡ ls
none_leaves x [] off = refl
none_leaves x (ys ∷ ls) off =
    let parts = or_parts (is_on x ys) (is_on_any x ls) off in
    let here : without x ys ≡ ys = without_off x ys parts.0 in
    let others : map (without x) ls ≡ ls = none_leaves x ls parts.1 in
    cc

-- a list that has an item is one of the lists
pub list_within : (x : ℕ) (ls : List (List ℕ)) (q : ℕ) → is_on x (list_at ls q) ≡ true → q < length ls
list_within x [] q on = absurd (let z : ⊥ = cc in z)
list_within x (ys ∷ ls) zero on = omega arith
list_within x (ys ∷ ls) (suc q) on = let h : q < length ls = list_within x ls q on in omega arith

-- where an item leaves each list, only the list that has it changes
pub one_leaves : (family : Family) (x q : ℕ) → AreApart family → is_on x (list_at family.lists q) ≡ true → map (without x) family.lists ≡ slice_set family.lists q (without x (list_at family.lists q))
one_leaves family x q a on =
    let ls = family.lists in
    let rest = without x (list_at ls q) in
    let known : q < length ls = list_within x ls q on in
    ext_get_or [] (map (without x) ls) (slice_set ls q rest) (length-map ls (without x) ∙ sym (length-set ls q rest)) (λ p h. map_at (without x) ls p refl ∙ at_list known p (cases_eq p q))
  where
    off_other : (p : ℕ) (b : Bool) → p ≢ q → is_on x (list_at family.lists p) ≡ b → is_on x (list_at family.lists p) ≡ false
    off_other p true other e = absurd (other (a.apart x p q e on))
    off_other p false other e = e

    at_list : q < length family.lists → (p : ℕ) → (p ≡ q) ⊎ (p ≡ q → ⊥) → without x (list_at family.lists p) ≡ list_at (slice_set family.lists q (without x (list_at family.lists q))) p
    at_list known p (inl same) =
        subst (λ z. without x (list_at family.lists z) ≡ list_at (slice_set family.lists q (without x (list_at family.lists q))) z) (sym same)
        (sym (get_or-set_same family.lists q (without x (list_at family.lists q)) [] known))
    at_list known p (inr other) =
        without_off x (list_at family.lists p) (off_other p (is_on x (list_at family.lists p)) other refl)
        ∙ sym (get_or-set_other family.lists q p (without x (list_at family.lists q)) [] other)

-- the first item of a list leaves
pub first_pops : (family : Family) (x q : ℕ) → AreApart family → first_of (list_at family.lists q) ≡ Some x → map (without x) family.lists ≡ slice_set family.lists q (drop 1 (list_at family.lists q))
first_pops family x q a first =
    one_leaves family x q a (first_is_on x (list_at family.lists q) first) ∙ ap (slice_set family.lists q) (first_leaves x (list_at family.lists q) (a.once q) first)

-- the list that has an item is its list
pub list_of_on : (family : Family) (x q : ℕ) → AreApart family → is_on x (list_at family.lists q) ≡ true → list_of x family.lists ≡ Some q
list_of_on family x q a on = list_of_first x family.lists q on (λ p h. before p h (is_on x (list_at family.lists p)) refl)
  where
    before : (p : ℕ) → p < q → (b : Bool) → is_on x (list_at family.lists p) ≡ b → is_on x (list_at family.lists p) ≡ false
    before p h true e = absurd (let same : p ≡ q = a.apart x p q e on in omega arith)
    before p h false e = e
