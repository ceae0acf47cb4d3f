-- The status is one of four.
use Rattle.wdf_table.proofs.Worst.{status_small}
use Rattle.wdf_table.proofs.tally.Tally.status.Goals as goal

pub returns-clause-small : goal.returns-clause-small
returns-clause-small c = rw c.worst.ensures (status_small c.args.self.now)
