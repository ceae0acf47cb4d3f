-- The lines after the events of a run, and its status. (own)
use Rattle.std.specs.Prelude.{◌++◌, ℕ, List, length, codes}
use Rattle.wdf_base.specs.Meaning.{Meaning}
use Rattle.wdf_base.specs.declared.plan.Plan.{Plan}
use Rattle.wdf_base.specs.declared.event.Event.{Event}
use Rattle.wdf_base.specs.declared.event.Ending.{Ending}
use Rattle.wdf_base.specs.declared.event.Ending.TheVariants as ending
use Rattle.wdf_model.specs.rules.Ready.{ending_of}
use Rattle.wdf_model.specs.rules.Waits.{wait_list}
use Rattle.wdf_lines.specs.Endings.{ending_text, wait_lines}

-- the status of a run that ended so; 0, too, for a run that goes on, which has none
abbrev pub status_of : Ending → ℕ
status_of ending.Running = 0
status_of ending.Finished = 0
status_of (ending.Fault f) = 3
status_of ending.Stuck = 4
status_of ending.Limit = 5

-- the lines after the events: the ending's, and the wait list's, which only a stuck run has
abbrev pub ending_lines : {A : Type 0} → Plan → Meaning A → List Event → List ℕ
ending_lines plan m run =
    (ending_text (length run) (ending_of plan m run) ++ codes "\n") ++ wait_lines plan (wait_list plan m run)
