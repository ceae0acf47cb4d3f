-- One line more is taken, or it is the first bad one.
use Rattle.wdf_sum.proofs.Taking.{bad_read, one_read}
use Rattle.wdf_sum.proofs.tables.read_tables.Goals as goal

pub returns-in-Err-clause-bad : goal.returns-in-Err-clause-bad
returns-in-Err-clause-bad c =
    bad_read c.args.text.now c.line_at-line.result.now c.loop-at.at c.loop-at.number c.loop-at.tables c.in-Err.bad c.loop-at.invariant c.loop-at-test.true c.line_at-line.ensures.value
    (c.in-Err.ensures.bad c.loop-at.invariant.lines c.loop-at.invariant.read)

pub loop-at-preserved : goal.loop-at-preserved
loop-at-preserved c =
    one_read c.args.text.now c.line_at-line.result.now c.loop-at.at c.loop-at.number c.loop-at.tables _ c.loop-at.invariant c.loop-at-test.true c.line_at-line.ensures.value
    c.line_at-line.ensures.some c.line_at-line.ensures.small (c.in-Ok.ensures.taken c.loop-at.invariant.lines c.loop-at.invariant.read)
