-- A row more.
use Rattle.std.proofs.Common.{refl, rules}
use Rattle.wdf_sum.specs.Lines.{rows_in}
use Rattle.wdf_sum.proofs.Taking.{row_read}
use Rattle.wdf_sum.proofs.tables.Tables.take_row.Goals as goal

pub returns-in_ok-add-in-Some-clause-taken : goal.returns-in_ok-add-in-Some-clause-taken
returns-in_ok-add-in-Some-clause-taken c = λ lines read.
    row_read lines c.args.row c.args.self.now _ read (c.in_ok-add-in-Some.ensures.tally (rows_in lines) read.tally) refl (search rules) refl refl
