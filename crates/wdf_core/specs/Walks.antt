-- The wait list of a run from a place on: none unless the run is stuck.
use Rattle.std.specs.Prelude.{List}
use Rattle.wdf_base.specs.Meaning.{Meaning}
use Rattle.wdf_base.specs.declared.plan.Plan.{Plan}
use Rattle.wdf_base.specs.declared.event.Event.{Event}
use Rattle.wdf_base.specs.declared.wait.WaitLine.{WaitLine}
use Rattle.wdf_model.specs.rules.Ready.{ending_of, state_after}
use Rattle.wdf_model.specs.rules.Waits.{if_stuck}
use Rattle.wdf_waits.specs.Walks.{lines_at}
use Rattle.wdf_waits.specs.declared.walk.WaitPlace.{WaitPlace}

abbrev pub waits_from : {A : Type 0} → Plan → Meaning A → List Event → WaitPlace → List WaitLine
waits_from plan m journal place = if_stuck (ending_of plan m journal) (lines_at plan m (state_after plan m journal) place)
