-- The clause is the lemma on names.
use Rattle.law_lines.proofs.ProperNames.{handle_name}
use Rattle.law_lines.proofs.plan_events.handles_are_named.Goals as goal

pub returns : goal.returns
returns g c = handle_name
