-- What a search over groups and places finds is what may come.
use Rattle.std.proofs.Common.{if◌then◌else◌, Bool, true, false, filter, ◌≡◌, ◌-◌, List, [], ◌∷◌, Option, Some, None, refl, sym, arith}
use Rattle.std.specs.List.{filter_map, flat_map, cons_option, range_with_len}
use Rattle.std.specs.Option.{option_and_then}
use Rattle.std.proofs.lemmas.List.Elements.{filter-append}
use Rattle.wdf_base.specs.Meaning.{Meaning}
use Rattle.wdf_base.specs.declared.plan.Plan.{Plan}
use Rattle.wdf_model.specs.declared.enums.Group.{Group}
use Rattle.wdf_model.specs.State.{State}
use Rattle.wdf_model.specs.rules.Groups.{candidate, candidates_in, groups, places_in}
use Rattle.wdf_model.specs.rules.Ready.{allowed}
use Rattle.wdf_model.specs.rules.Steps.{may}
use Rattle.wdf_offers.specs.Search.{events_of, offered_from}

-- an item that passes its test stays in front
kept_first : {Y : Type 0} (passes : Bool) (y : Y) (ys : List Y) → (if passes then y ∷ ys else ys) ≡ cons_option (if passes then Some y else None) ys
kept_first true y ys = refl
kept_first false y ys = refl

filter-cons_option : {Y : Type 0} (test : Y → Bool) (o : Option Y) (ys : List Y)
    → filter test (cons_option o ys) ≡ cons_option (option_and_then (λ y. if test y then Some y else None) o) (filter test ys)
filter-cons_option test None ys = refl
filter-cons_option test (Some y) ys = kept_first (test y) y (filter test ys)

-- a test of what is made of some items is a test of each as it is made
filter-filter_map : {X Y : Type 0} (test : Y → Bool) (make : X → Option Y) (xs : List X)
    → filter test (filter_map make xs) ≡ filter_map (λ x. option_and_then (λ y. if test y then Some y else None) (make x)) xs
filter-filter_map test make [] = refl
filter-filter_map test make (x ∷ xs) = rw (filter-cons_option test (make x) (filter_map make xs), filter-filter_map test make xs) refl

filter-flat_map : {X Y : Type 0} (test : Y → Bool) (make kept : X → List Y) → ((x : X) → filter test (make x) ≡ kept x) → (xs : List X)
    → filter test (flat_map make xs) ≡ flat_map kept xs
filter-flat_map test make kept each [] = refl
filter-flat_map test make kept each (x ∷ xs) = rw (filter-append test (make x) (flat_map make xs), each x, filter-flat_map test make kept each xs) refl

-- what may come of a group is what its places offer
pub group_offers : {A : Type 0} (plan : Plan) (m : Meaning A) (S : State A) (group : Group) → filter (may plan m S) (candidates_in plan m S group) ≡ offered_from plan m S group 0
group_offers plan m S group =
    let e : places_in plan S group - 0 ≡ places_in plan S group = omega arith in
    rw e (filter-filter_map (may plan m S) (candidate plan m S group) (range_with_len 0 (places_in plan S group)))

pub search_finds : {A : Type 0} (plan : Plan) (m : Meaning A) (S : State A) → events_of plan m S (groups plan) ≡ allowed plan m S
search_finds plan m S = sym (filter-flat_map (may plan m S) (candidates_in plan m S) (λ group. offered_from plan m S group 0) (group_offers plan m S) (groups plan))
