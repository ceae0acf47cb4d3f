-- What a group offers, place by place.
use Rattle.std.proofs.Common.{if◌then◌else◌, ◌≡◌, Bool, true, false, List, [], ◌∷◌, filter, Option, Some, None, refl, ap}
use Rattle.std.specs.List.{cons_option, filter_map}
use Rattle.std.specs.Option.{option_and_then}

-- an item, if it passes
abbrev pub if_passes : {Y : Type 0} → (Y → Bool) → Option Y → Option Y
if_passes p = option_and_then (λ y. if p y then Some y else None)

kept_by : {Y : Type 0} (p : Y → Bool) (y : Y) (b : Bool) (ys zs : List Y) → p y ≡ b → filter p ys ≡ zs → filter p (y ∷ ys) ≡ cons_option (if b then Some y else None) zs
kept_by p y true ys zs e h = rw e (ap (λ rest. y ∷ rest) h)
kept_by p y false ys zs e h = rw e h

kept : {Y : Type 0} (p : Y → Bool) (o : Option Y) (ys zs : List Y) → filter p ys ≡ zs → filter p (cons_option o ys) ≡ cons_option (if_passes p o) zs
kept p None ys zs h = h
kept p (Some y) ys zs h = kept_by p y (p y) ys zs refl h

-- to choose and then to keep is to choose what is kept
pub filter_chosen : {X Y : Type 0} (p : Y → Bool) (f : X → Option Y) (xs : List X) → filter p (filter_map f xs) ≡ filter_map (λ x. if_passes p (f x)) xs
filter_chosen p f [] = refl
filter_chosen p f (x ∷ xs) = kept p (f x) (filter_map f xs) (filter_map (λ y. if_passes p (f y)) xs) (filter_chosen p f xs)

pub chosen_alike : {X Y : Type 0} (f g : X → Option Y) (xs : List X) → ((x : X) → f x ≡ g x) → filter_map f xs ≡ filter_map g xs
chosen_alike f g [] h = refl
chosen_alike f g (x ∷ xs) h = rw (h x, chosen_alike f g xs h) refl
