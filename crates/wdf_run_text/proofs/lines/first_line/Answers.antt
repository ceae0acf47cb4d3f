-- The bytes before the place have no line feed.
use Rattle.std.proofs.Common.{sym, arith}
use Rattle.wdf_run_text.proofs.Cutting.{inside_opens, inside_goes_on, inside_ends, inside_whole}
use Rattle.wdf_run_text.proofs.lines.first_line.Goals as goal

pub loop-k-init : goal.loop-k-init
loop-k-init c = inside_opens c.args.trace.now

pub returns-then-trace-k-eq10-clause-value : goal.returns-then-trace-k-eq10-clause-value
returns-then-trace-k-eq10-clause-value c = sym (inside_ends c.args.trace.now c.loop-k.k c.loop-k-test.true c.if-trace-k-eq10.true c.loop-k.invariant)

pub loop-k-preserved : goal.loop-k-preserved
loop-k-preserved c = inside_goes_on c.args.trace.now c.loop-k.k c.loop-k-test.true c.if-trace-k-eq10.false c.loop-k.invariant

pub returns-clause-value : goal.returns-clause-value
returns-clause-value c = sym (inside_whole c.args.trace.now c.loop-k.k (omega (arith, c.loop-k-test.false)) c.loop-k.invariant)
