-- The rows of tables stand for what the tables count.
use Rattle.wdf_sum.proofs.Behind.{tables_of_tables}
use Rattle.wdf_sum.proofs.laws.tables_of_tables.Goals as goal

pub returns : goal.returns
returns c = tables_of_tables
