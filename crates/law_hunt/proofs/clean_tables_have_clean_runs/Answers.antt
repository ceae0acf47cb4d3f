-- The clause is the lemma.
use Rattle.law_hunt.proofs.OfTables.{clean_runs}
use Rattle.law_hunt.proofs.clean_tables_have_clean_runs.Goals as goal

pub returns : goal.returns
returns c = clean_runs
