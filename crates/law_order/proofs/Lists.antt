-- What holds of each item of a part of a list, and where nothing is found.
use Rattle.std.proofs.Common.{◌≡◌, List, [], ◌∷◌, ◌++◌, Option, None, refl}
use Rattle.wdf_refusals.specs.First.{first_some}
use Rattle.wdf_refusals.specs.Numbered.{Every}

pub every_front : {T : Type 0} (P : T → Type 0) (xs ys : List T) → Every P (xs ++ ys) → Every P xs
every_front P [] ys h = tt
every_front P (x ∷ xs) ys h = (h.0, every_front P xs ys h.1)

pub every_back : {T : Type 0} (P : T → Type 0) (xs ys : List T) → Every P (xs ++ ys) → Every P ys
every_back P [] ys h = h
every_back P (x ∷ xs) ys h = every_back P xs ys h.1

pub none_some : {T U : Type 0} (f : T → Option U) (xs : List T) → Every (λ x. f x ≡ None) xs → first_some f xs ≡ None
none_some f [] h = refl
none_some f (x ∷ xs) h = rw h.0 (none_some f xs h.1)
