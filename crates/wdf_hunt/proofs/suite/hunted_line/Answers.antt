-- The rows are put in order, and their line is written.
use Rattle.wdf_hunt.proofs.Suites.{table_told}
use Rattle.wdf_hunt.proofs.suite.hunted_line.Goals as goal

pub returns : goal.returns
returns c = λ tried from count hunt.
    table_told tried from count c.args.number c.args.name.now c.args.hunted c.sort.new.self c.table_line.result hunt (c.sort.ensures hunt.tries hunt.tally) c.table_line.ensures
