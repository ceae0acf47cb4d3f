-- The seats stay a row while the workers have their turns.
use Rattle.std.proofs.Common.{rules, arith}
use Rattle.wdf_crew.proofs.Rows.{row_told, row_worked}
use Rattle.wdf_crew.proofs.shared.work_row.Goals as goal

pub work_all-requires-clause-some : goal.work_all-requires-clause-some
work_all-requires-clause-some g c = let count = c.requires.1.count in omega arith

pub work_all-requires-clause-idle : goal.work_all-requires-clause-idle
work_all-requires-clause-idle g c = let idle = c.requires.1.idle in search rules

pub returns-clause-row : goal.returns-clause-row
returns-clause-row g c =
    let worked = row_worked c.args.turn.now c.requires.0 c.args.seats.now c.work_all.new.seats c.requires.1 c.work_all.ensures.count c.work_all.ensures.each in
    (c.requires.0, row_told c.args.turn.now c.requires.0 c.work_all.new.seats c.tell_end.new.seat _ worked (c.tell_end.ensures.idle, c.tell_end.ensures.same))
