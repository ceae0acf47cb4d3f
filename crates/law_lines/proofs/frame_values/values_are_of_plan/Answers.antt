-- The clause is the lemma on values.
use Rattle.law_lines.proofs.OverRuns.{values_of_plan}
use Rattle.law_lines.proofs.frame_values.values_are_of_plan.Goals as goal

pub returns : goal.returns
returns g c = values_of_plan
