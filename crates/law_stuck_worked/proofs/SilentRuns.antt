-- Stuck runs with targets that never answer, computed from the definitions.
use Rattle.std.proofs.Common.{◌≡◌, List, [], ◌∷◌, ◌++◌, Some, slice_get, refl}
use Rattle.std.specs.Prelude.{⊤}
use Rattle.wdf_base.specs.declared.event.Event.{Event}
use Rattle.wdf_model.specs.Runs.{IsRun}
use Rattle.wdf_model.specs.rules.Ready.{ending_of, ready, state_after}
use Rattle.wdf_model.specs.rules.Script.{value_of}
use Rattle.wdf_model.specs.rules.Waits.{wait_list}
use Rattle.wdf_model.proofs.Runs.{run_goes_on, run_opens}
use Rattle.law_stuck_worked.specs.Silence.{IsSilentRun, silent}
use Rattle.law_stuck_worked.specs.SilentRuns.{never_answered_events, never_answered_plan, never_answered_waits}

-- each of some events is the first that may follow those before it
abbrev AllFirst : (List Event → List Event) → List Event → List Event → Type 0
AllFirst may run [] = ⊤
AllFirst may run (e ∷ es) = (slice_get (may run) 0 ≡ Some e) × AllFirst may (run ++ e ∷ []) es

abbrev joined : List Event → List Event → List Event
joined run [] = run
joined run (e ∷ es) = joined (run ++ e ∷ []) es

all_first : (may : List Event → List Event) (run more : List Event) → IsRun may run → AllFirst may run more → IsRun may (joined run more)
all_first may run [] k h = k
all_first may run (e ∷ es) k h = all_first may (run ++ e ∷ []) es (run_goes_on may run e 0 k h.0) h.1

pub never_answered : IsSilentRun never_answered_plan never_answered_events never_answered_waits
unfolding state_after ready ending_of wait_list value_of
never_answered = record {
  run = all_first (ready never_answered_plan silent) [] never_answered_events (run_opens (ready never_answered_plan silent)) (refl, (refl, (refl, (refl, (refl, (refl, (refl, (refl, (refl, tt)))))))));
  stuck = refl;
  lines = refl;
}
