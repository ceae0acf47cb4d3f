-- The clause is the lemma on lines that name a cause, for this form.
use Rattle.wdf_base.specs.declared.wait.OpenThing.TheVariants as thing
use Rattle.wdf_model.specs.rules.Ready.{state_after}
use Rattle.law_stuck_causes.proofs.Stages.{line_named}
use Rattle.law_stuck_causes.proofs.Tops.{one_parked}
use Rattle.law_stuck_causes.proofs.parked_frames_name_a_cause.Goals as goal

pub returns : goal.returns
returns g k = λ plan m run is_run ends k f c o x h at waits. line_named plan m run is_run ends k (record { thing = thing.Waiting f c o; cause = x }) h (one_parked plan (state_after plan m run) f.0 at waits)
