-- The clause is the lemma on lines that name a cause, for this form.
use Rattle.std.proofs.Common.{◌&&◌}
use Rattle.wdf_base.specs.declared.wait.OpenThing.TheVariants as thing
use Rattle.wdf_base.specs.Lives.{is_cleaned}
use Rattle.wdf_model.specs.parts.Tree.{life_of}
use Rattle.wdf_model.specs.State.{nothing_at}
use Rattle.wdf_model.specs.rules.Ready.{state_after}
use Rattle.wdf_model.specs.rules.Starts.{is_finished}
use Rattle.wdf_model.proofs.Tests.{first}
use Rattle.law_stuck_causes.proofs.Stages.{line_named}
use Rattle.law_stuck_causes.proofs.cleaned_objects_name_a_cause.Goals as goal

pub returns : goal.returns
returns g c = λ plan m run is_run ends k o x h is. line_named plan m run is_run ends k (record { thing = thing.Leaving o; cause = x }) h (first (is_cleaned (life_of (state_after plan m run).tree o.id.0)) (is_finished (state_after plan m run) o.id.0 && nothing_at (state_after plan m run) o.id.0) is)
