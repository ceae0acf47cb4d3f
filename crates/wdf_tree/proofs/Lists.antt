-- A list of a family, gone along from its front.
use Rattle.std.proofs.Common.{ℕ, zero, suc, ◌≡◌, ◌⊎◌, ◌+◌, ◌<◌, ◌==◌, ◌||◌, ◌&&◌, ◌≤◌, nat_le, Bool, true, false, List, [], ◌∷◌, Option, Some, None, take, slice_get, refl, ap, sym, ◌∙◌, inl, inr, arith}
use Rattle.std.specs.Prelude.{IfSome, option_and_then}
use Rattle.std.proofs.Math.Bool.{or-false, or_assoc}
use Rattle.std.proofs.lemmas.Bool.{eqb-true, false≢true, or_cases}
use Rattle.wdf_ilist.specs.Family.{Family, AreApart, after_in, is_on, list_at}
use Rattle.wdf_model.specs.Tables.{same_id}
use Rattle.wdf_sets.specs.Members.{is_in}
use Rattle.wdf_ilist.proofs.Places.{next_at, on_at}

none_past : (xs : List ℕ) (k : ℕ) → slice_get xs k ≡ None → slice_get xs (k + 1) ≡ None
none_past [] k e = refl
none_past (x ∷ xs) zero e = absurd (let z : ⊥ = cc in z)
none_past (x ∷ xs) (suc k) e = let step : suc k + 1 ≡ suc (k + 1) = omega arith in rw step (none_past xs k e)

-- one place further on a list
pub next_place : (family : Family) (q k : ℕ) (found : Option ℕ) → AreApart family → found ≡ slice_get (list_at family.lists q) k
    → option_and_then (λ x. after_in x family.lists) found ≡ slice_get (list_at family.lists q) (k + 1)
next_place family q k None a e = sym (none_past (list_at family.lists q) k (sym e))
next_place family q k (Some x) a e = next_at family q k x a (sym e)

pub same_id_is : (found : Option ℕ) (x : ℕ) → same_id found x ≡ true → found ≡ Some x
same_id_is None x h = absurd (false≢true h)
same_id_is (Some y) x h = ap Some (eqb-true y x h)

on_suc : (xs : List ℕ) (k x : ℕ) → is_on x (take (suc k) xs) ≡ (is_on x (take k xs) || same_id (slice_get xs k) x)
on_suc [] zero x = refl
on_suc [] (suc k) x = refl
on_suc (y ∷ ys) zero x = or-false (y == x)
on_suc (y ∷ ys) (suc k) x = ap (λ b. (y == x) || b) (on_suc ys k x) ∙ sym (or_assoc (y == x) (is_on x (take k ys)) (same_id (slice_get ys k) x))

-- what is among one item more was there before, or is that item
pub on_taken : (xs : List ℕ) (k x : ℕ) → is_on x (take (k + 1) xs) ≡ (is_on x (take k xs) || same_id (slice_get xs k) x)
on_taken xs k x = let step : k + 1 ≡ suc k = omega arith in rw step (on_suc xs k x)

pub on_more : (xs : List ℕ) (k x : ℕ) → is_on x (take (k + 1) xs) ≡ true → (is_on x (take k xs) ≡ true) ⊎ (slice_get xs k ≡ Some x)
on_more xs k x h = by (or_cases (is_on x (take k xs)) (same_id (slice_get xs k) x) (sym (on_taken xs k x) ∙ h))
  where
    by : (is_on x (take k xs) ≡ true) ⊎ (same_id (slice_get xs k) x ≡ true) → (is_on x (take k xs) ≡ true) ⊎ (slice_get xs k ≡ Some x)
    by (inl e) = inl e
    by (inr e) = inr (same_id_is (slice_get xs k) x e)

-- an item of a list is one of the family's
pub item_within : (family : Family) (q k n : ℕ) (found : Option ℕ) → AreApart family → family.items ≤ n → found ≡ slice_get (list_at family.lists q) k → IfSome found (λ x. x < n)
item_within family q k n None a h e = tt
item_within family q k n (Some x) a h e = let below : x < family.items = a.within x q (on_at (list_at family.lists q) k x (sym e)) in omega arith

more_by : (a p q n : Bool) → ((a || (p && n)) || (q && n)) ≡ (a || ((p || q) && n))
more_by true p q n = refl
more_by false true q true = refl
more_by false true true false = refl
more_by false true false false = refl
more_by false false q n = refl

-- one item more was put into a set
pub put_more : (xs : List ℕ) (k first id : ℕ) (old before after : List Bool) (found : Option ℕ) → found ≡ slice_get xs k
    → is_in id before ≡ (is_in id old || (is_on id (take k xs) && nat_le first id)) → is_in id after ≡ (is_in id before || (same_id found id && nat_le first id))
    → is_in id after ≡ (is_in id old || (is_on id (take (k + 1) xs) && nat_le first id))
put_more xs k first id old before after found at was e =
    e ∙ rw (was, at) (more_by (is_in id old) (is_on id (take k xs)) (same_id (slice_get xs k) id) (nat_le first id))
    ∙ ap (λ b. is_in id old || (b && nat_le first id)) (sym (on_taken xs k id))
