-- The clause is the lemma on what is computed.
use Rattle.law_machine_base.proofs.Course.{run_by_is_picked}
use Rattle.law_machine_base.proofs.worked.computed_run_is_picked.Goals as goal

pub returns : goal.returns
returns c = run_by_is_picked
