-- What is written at each exit of a watched run. (own)
use Rattle.std.specs.Prelude.{◌≢◌, ℕ, ◌+◌, ◌++◌, List, drop}
use Rattle.wdf_base.specs.Meaning.{Meaning}
use Rattle.wdf_base.specs.declared.plan.Plan.{Plan}
use Rattle.wdf_base.specs.declared.event.Event.{Event}
use Rattle.wdf_base.specs.declared.event.Ending.TheVariants as ending
use Rattle.wdf_lines.specs.Lines.{lines_from}
use Rattle.wdf_model.specs.rules.Ready.{IsRunOf, ending_of}
use Rattle.wdf_output.specs.Endings.{ending_lines, status_of}
use Rattle.wdf_output.specs.Said.{Sinking, Says}
use Rattle.wdf_run_text.specs.Texts.{text_of}

-- the rest of a run's text, after the lines of so many events
abbrev pub text_after : {A : Type 0} → Plan → Meaning A → List Event → ℕ → List ℕ
text_after plan m run lines = lines_from plan (lines + 1) (drop lines run) ++ ending_lines plan m run

-- One run was made and has ended. Its whole text was written, with its ending's status; or a write failed, and a front of that
-- text was written, less than the whole, and 13 is the status.
pub record HasWatched {A : Type 0} (plan : Plan) (m : Meaning A) (s : Sinking) (status : ℕ) : Type 0 where
  pub run : List Event
  pub runs : IsRunOf plan m run
  pub ended : ending_of plan m run ≢ ending.Running
  pub said : Says s (text_of plan m run) (status_of (ending_of plan m run)) status
