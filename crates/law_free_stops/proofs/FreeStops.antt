-- Stops at each place of a free run.
use Rattle.std.proofs.Common.{ℕ, ◌≤◌, List, length, ap}
use Rattle.wdf_base.specs.Resolved.{IsResolved}
use Rattle.wdf_base.specs.declared.plan.Plan.{Plan}
use Rattle.wdf_base.specs.declared.event.Event.{Event}
use Rattle.wdf_model.specs.Tables.{first_of_list}
use Rattle.wdf_model.specs.State.{State}
use Rattle.law_free_runs.specs.FreeRuns.{IsFreeRun}
use Rattle.law_free_runs.proofs.FreeRuns.{free_place}
use Rattle.law_free_runs.proofs.FreeStates.{FreeState, event_state, opening_state, tick_state}
use Rattle.law_free_stops.specs.StopsWait.{StopsWait}
use Rattle.law_free_stops.proofs.Stops.{FreeStops, event_stops, opening_stops, tick_stops}

abbrev Known : {A : Type 0} → Plan → State A → Type 0
Known plan S = FreeState plan S × FreeStops plan S

pub free_stops : {A : Type 0} (plan : Plan) (run : List Event) → IsResolved plan → (free : IsFreeRun A plan run) (n : ℕ) → n ≤ length run → FreeStops plan (free.states n)
free_stops {A} plan run resolved free n h =
    let k : Known plan (free.states n) = free_place plan (λ (S : State A). Known plan S)
    (λ m. (opening_state plan m, opening_stops plan m resolved (opening_state plan m)))
    (λ m S e may_come k. (event_state plan m S e may_come k.0, event_stops plan m S e resolved may_come k.0 k.1))
    (λ m S time k. (tick_state plan m S time k.0, tick_stops plan m S time k.1)) run free n h in
    k.1

pub stops_wait : {A : Type 0} (plan : Plan) (run : List Event) → IsResolved plan → (free : IsFreeRun A plan run) (n : ℕ) → n ≤ length run → StopsWait (free.states n)
stops_wait plan run resolved free n h = record {
  waits = λ f there is. let s = (free_stops plan run resolved free n h).stops f there is in (s.next.0, ap first_of_list s.next.1);
}
