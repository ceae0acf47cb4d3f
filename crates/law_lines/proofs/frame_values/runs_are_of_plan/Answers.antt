-- The clause is the lemma on runs.
use Rattle.law_lines.proofs.OverRuns.{events_of_plan}
use Rattle.law_lines.proofs.frame_values.runs_are_of_plan.Goals as goal

pub returns : goal.returns
returns g c = events_of_plan
