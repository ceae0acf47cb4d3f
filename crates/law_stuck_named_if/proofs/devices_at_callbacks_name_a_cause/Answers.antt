-- The clause is the lemma on what is so of each line, for this form.
use Rattle.wdf_base.specs.declared.event.Step.TheVariants as step
use Rattle.wdf_base.specs.declared.wait.OpenThing.TheVariants as thing
use Rattle.law_stuck_named_if.proofs.Lines.{line_names}
use Rattle.law_stuck_named_if.proofs.devices_at_callbacks_name_a_cause.Goals as goal

pub returns : goal.returns
returns g c = λ plan m run resolved is_run ends k d c i x h calm early may_be. line_names plan m run resolved is_run ends k (record { thing = thing.Sequence d (step.Run c i); cause = x }) h calm early may_be
