-- The clause is the lemma on lines that name a cause, for this form.
use Rattle.std.proofs.Common.{not, ◌&&◌, ap}
use Rattle.wdf_base.specs.declared.wait.OpenThing.TheVariants as thing
use Rattle.wdf_model.specs.parts.Pnp.{follows_queues_up, is_running_step}
use Rattle.wdf_model.specs.rules.Ready.{state_after}
use Rattle.wdf_model.proofs.Tests.{both}
use Rattle.law_stuck_causes.specs.Caused.{is_stage}
use Rattle.law_stuck_causes.proofs.Stages.{line_named}
use Rattle.law_stuck_causes.proofs.stages_name_a_cause.Goals as goal

pub returns : goal.returns
returns g c = λ plan m run is_run ends k d s x h is calm early. line_named plan m run is_run ends k (record { thing = thing.Sequence d s; cause = x }) h (both (is_stage s && not (is_running_step (state_after plan m run).pnp d.id.0)) (not (follows_queues_up (state_after plan m run).pnp d.id.0)) (both (is_stage s) (not (is_running_step (state_after plan m run).pnp d.id.0)) is (ap not calm)) (ap not early))
