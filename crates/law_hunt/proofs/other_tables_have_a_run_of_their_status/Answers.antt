-- The clause is the lemma.
use Rattle.law_hunt.proofs.OfTables.{some_run}
use Rattle.law_hunt.proofs.other_tables_have_a_run_of_their_status.Goals as goal

pub returns : goal.returns
returns c = some_run
