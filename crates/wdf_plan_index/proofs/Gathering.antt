-- Lists that are gathered item by item.
use Rattle.std.proofs.Common.{◌≡◌, ◌≤◌, ℕ, suc, arith, length, List, [], ◌∷◌, ◌++◌, Option, Some, None, map, take, slice_get, refl, ap, ◌∙◌}
use Rattle.std.specs.List.{filter_map}
use Rattle.std.proofs.lemmas.List.Elements.{filter_map-append}
use Rattle.wdf_model.proofs.Runs.{take_next}

pub kept : {S T : Type 0} (f : S → Option T) (xs : List S) (k : ℕ) (x : S) (y : T) → slice_get xs k ≡ Some x → f x ≡ Some y → filter_map f (take (suc k) xs) ≡ filter_map f (take k xs) ++ y ∷ []
kept f xs k x y h e = rw (take_next xs k x h, filter_map-append, e) refl

pub append_none : {T : Type 0} (xs : List T) → xs ++ [] ≡ xs
append_none [] = refl
append_none (x ∷ xs) = ap (λ zs. x ∷ zs) (append_none xs)

pub passed : {S T : Type 0} (f : S → Option T) (xs : List S) (k : ℕ) (x : S) → slice_get xs k ≡ Some x → f x ≡ None → filter_map f (take (suc k) xs) ≡ filter_map f (take k xs)
passed f xs k x h e = rw (take_next xs k x h, filter_map-append, e) (append_none (filter_map f (take k xs)))

map_last : {S T : Type 0} (f : S → T) (xs : List S) (x : S) → map f (xs ++ x ∷ []) ≡ map f xs ++ f x ∷ []
map_last f [] x = refl
map_last f (y ∷ ys) x = ap (λ zs. f y ∷ zs) (map_last f ys x)

pub mapped : {S T : Type 0} (f : S → T) (xs : List S) (k : ℕ) (x : S) → slice_get xs k ≡ Some x → map f (take (suc k) xs) ≡ map f (take k xs) ++ f x ∷ []
mapped f xs k x h = ap (map f) (take_next xs k x h) ∙ map_last f (take k xs) x

kept_by : {S T : Type 0} (f : S → Option T) (x : S) (xs : List S) (y : Option T) → f x ≡ y → length (filter_map f xs) ≤ length xs → length (filter_map f (x ∷ xs)) ≤ length (x ∷ xs)
kept_by f x xs (Some y) e rest = rw e (omega (arith, rest))
kept_by f x xs None e rest = rw e (omega (arith, rest))

pub kept_few : {S T : Type 0} (f : S → Option T) (xs : List S) → length (filter_map f xs) ≤ length xs
kept_few f [] = omega arith
kept_few f (x ∷ xs) = kept_by f x xs (f x) refl (kept_few f xs)
