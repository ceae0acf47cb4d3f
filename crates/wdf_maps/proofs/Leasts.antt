-- The least numbers of lists: of joined lists, and as std's `min` finds them.
use Rattle.std.proofs.Common.{rules, tests, ◌≡◌, ℕ, nat_le, Bool, true, false, List, [], ◌∷◌, ◌++◌, Option, Some, None, fold, min, refl, ap, sym, ◌∙◌, arith}
use Rattle.std.specs.List.{reduce}
use Rattle.std.proofs.lemmas.List.Sums.{fold-append}
use Rattle.std.proofs.lemmas.Bool.{leb-true, leb-false}
use Rattle.wdf_model.specs.Tables.{least, lesser}
use Rattle.wdf_maps.specs.Least.{lesser_if}

-- ---- joined lists

three_by : (m x y : ℕ) (a b c : Bool) → nat_le m x ≡ a → nat_le x y ≡ b → nat_le m y ≡ c → lesser (lesser (Some m) x) y ≡ lesser_if (Some m) (lesser (Some x) y)
three_by m x y true true true e f g = simp (e, f, g)
three_by m x y true false c e f g = simp (e, f)
three_by m x y false true c e f g = simp (e, f)
three_by m x y false false false e f g = simp (e, f, g)
three_by m x y true true false e f g = absurd (let p = leb-true m x e in let q = leb-true x y f in let r = leb-false m y g in omega arith)
three_by m x y false false true e f g = absurd (let p = leb-false m x e in let q = leb-false x y f in let r = leb-true m y g in omega arith)

two_by : (x y : ℕ) (b : Bool) → nat_le x y ≡ b → lesser (Some x) y ≡ lesser_if None (lesser (Some x) y)
two_by x y true f = simp f
two_by x y false f = simp f

three : (m : Option ℕ) (x : ℕ) (o : Option ℕ) → lesser_if (lesser m x) o ≡ lesser_if m (lesser_if (Some x) o)
three m x None = refl
three None x (Some y) = two_by x y (nat_le x y) refl
three (Some m) x (Some y) = three_by m x y (nat_le m x) (nat_le x y) (nat_le m y) refl refl refl

-- the least of what was found and of a list
pub fold_least : (m : Option ℕ) (xs : List ℕ) → fold lesser m xs ≡ lesser_if m (least xs)
fold_least m [] = refl
fold_least m (x ∷ xs) = fold_least (lesser m x) xs ∙ three m x (least xs) ∙ ap (lesser_if m) (sym (fold_least (Some x) xs))

pub least_append : (xs ys : List ℕ) → least (xs ++ ys) ≡ lesser_if (least xs) (least ys)
least_append xs ys = fold-append lesser None xs ys ∙ fold_least (least xs) ys

-- ---- as it is found by `min`

lesser_min : (m n : ℕ) → lesser (Some m) n ≡ Some (min m n)
lesser_min m n = search (rules, tests)

fold_min : (m : ℕ) (xs : List ℕ) → Some (fold min m xs) ≡ fold lesser (Some m) xs
fold_min m [] = refl
fold_min m (x ∷ xs) = fold_min (min m x) xs ∙ ap (λ found. fold lesser found xs) (sym (lesser_min m x))

pub least_by_min : (xs : List ℕ) → reduce min xs ≡ least xs
least_by_min [] = refl
least_by_min (x ∷ xs) = fold_min x xs
