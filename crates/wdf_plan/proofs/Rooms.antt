-- Lists that are made item by item: each item fits, and there is room for it, where the whole list does.
use Rattle.std.proofs.Common.{◌≡◌, ℕ, zero, suc, ◌+◌, ◌<◌, List, [], ◌∷◌, ◌++◌, map, take, length, get_or, Option, Some, None, IfSome, sym, ◌∙◌, arith, length-append}
use Rattle.std.proofs.lemmas.List.Folds.{length-flat_map-take}
use Rattle.std.specs.List.{cons_option, flat_map}
use Rattle.std.specs.Option.{option_to_list}
use Rattle.wdf_refusals.specs.Numbered.{Every}
use Rattle.wdf_refusals.proofs.Gather.{cons-append}

-- what holds of each item of a list holds of each of its fronts and its rests
pub every_split : {T : Type 0} (R : T → Type 0) (xs ys : List T) → Every R (xs ++ ys) → Every R xs × Every R ys
every_split R [] ys h = (tt, h)
every_split R (x ∷ xs) ys h = let both = every_split R xs ys h.1 in ((h.0, both.0), both.1)

-- a front of a list that is short enough is short enough
pub front_few : {T : Type 0} (xs ys : List T) (n : ℕ) → length (xs ++ ys) < n → length xs < n
front_few xs ys n h =
    let both : length (xs ++ ys) ≡ length xs + length ys = length-append xs ys in
    omega (arith, both, h)

-- ---- an item for each of a list

pub mapped_fits : {A B : Type 0} (R : B → Type 0) (f : A → B) (all : List A) (k : ℕ) (d : A) → Every R (map f all) → k < length all → R (f (get_or all k d))
mapped_fits R f [] k d each h = absurd (omega (arith, h))
mapped_fits R f (x ∷ xs) zero d each h = each.0
mapped_fits R f (x ∷ xs) (suc k) d each h = mapped_fits R f xs k d each.1 (omega (arith, h))

-- ---- some items for each

pub flat_room : {A B : Type 0} (f : A → List B) (xs : List A) (k : ℕ) (d : A) (so_far more : List B) (n : ℕ) → so_far ≡ flat_map f (take k xs) → more ≡ f (get_or xs k d) → k < length xs → length (flat_map f xs) < n → length (so_far ++ more) < n
flat_room f xs k d so_far more n is own h fits =
    let a = length-flat_map-take f xs k d h in
    let b : length (flat_map f (take k xs) ++ f (get_or xs k d)) ≡ length (flat_map f (take k xs)) + length (f (get_or xs k d)) = length-append (flat_map f (take k xs)) (f (get_or xs k d)) in
    rw (is, own) (omega (arith, a, b, fits))

-- ---- the next item, if there is one

-- after these the list goes on with this item, if it is one
pub record IsNext {T : Type 0} (so_far whole : List T) (o : Option T) : Type 0 where
  pub rest : List T
  pub all : so_far ++ cons_option o rest ≡ whole

next_step : {T : Type 0} (R : T → Type 0) (so_far rest : List T) (o : Option T) → Every R (so_far ++ cons_option o rest) → IfSome o R
next_step R so_far rest None h = tt
next_step R so_far rest (Some x) h = (every_split R so_far (x ∷ rest) h).1.0

pub next_fits : {T : Type 0} (R : T → Type 0) (so_far whole : List T) (o : Option T) → IsNext so_far whole o → Every R whole → IfSome o R
next_fits R so_far whole o next each = next_step R so_far next.rest o (rw next.all each)

pub next_room : {T : Type 0} (so_far whole : List T) (o : Option T) (n : ℕ) → IsNext so_far whole o → length whole < n → length (so_far ++ option_to_list o) < n
next_room so_far whole o n next h =
    let split : (so_far ++ option_to_list o) ++ next.rest ≡ whole = sym (cons-append so_far next.rest o) ∙ next.all in
    front_few (so_far ++ option_to_list o) next.rest n (rw split h)
