-- Whether an event is still to be followed, event by event.
use Rattle.std.proofs.Common.{ℕ, ◌≡◌, ◌&&◌, ◌||◌, Bool, true, false, not, List, ◌∷◌, refl}
use Rattle.std.specs.List.{list_any}
use Rattle.wdf_base.specs.declared.plan.Plan.{Plan}
use Rattle.wdf_base.specs.declared.event.Event.{Event}
use Rattle.wdf_expect.specs.Patterns.{matches}
use Rattle.wdf_expect.specs.Verdicts.{is_followed}

-- the events of a list are followed, and so is one before it, if one is open
abbrev pub is_closed : Bool → Plan → List (List ℕ) → List (List ℕ) → List Event → Bool
is_closed to_come plan first next run = (not to_come || list_any (matches plan next) run) && is_followed plan first next run

by_cases : (is_first is_next to_come any rest : Bool) → ((not to_come || (is_next || any)) && ((not is_first || any) && rest)) ≡ ((not (is_first || (to_come && not is_next)) || any) && rest)
by_cases true true true true rest = refl
by_cases true true true false rest = refl
by_cases true true false true rest = refl
by_cases true true false false rest = refl
by_cases true false true true rest = refl
by_cases true false true false rest = refl
by_cases true false false true rest = refl
by_cases true false false false rest = refl
by_cases false true true true rest = refl
by_cases false true true false rest = refl
by_cases false true false true rest = refl
by_cases false true false false rest = refl
by_cases false false true true rest = refl
by_cases false false true false rest = refl
by_cases false false false true rest = refl
by_cases false false false false rest = refl

-- one event more
pub closed_more : (to_come : Bool) (plan : Plan) (first next : List (List ℕ)) (e : Event) (run : List Event)
    → is_closed to_come plan first next (e ∷ run) ≡ is_closed (matches plan first e || (to_come && not (matches plan next e))) plan first next run
closed_more to_come plan first next e run = by_cases (matches plan first e) (matches plan next e) to_come (list_any (matches plan next) run) (is_followed plan first next run)
