-- The clause is the lemma on what may follow.
use Rattle.law_lines.proofs.OverRuns.{next_event_of_plan}
use Rattle.law_lines.proofs.frame_values.events_are_of_plan.Goals as goal

pub returns : goal.returns
returns g c = next_event_of_plan
