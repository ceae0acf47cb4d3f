-- A range more, or all of them.
use Rattle.std.proofs.Common.{arith, ◌∙◌, ap, ◌+◌}
use Rattle.wdf_sum.proofs.Joining.{counted_more, follow_all, follow_more}
use Rattle.wdf_sum.proofs.joined.follow.Goals as goal

pub loop-k-preserved : goal.loop-k-preserved
loop-k-preserved c = (
  omega (arith, c.loop-k.invariant.0, counted_more c.args.ends.now c.loop-k.k (record { from = 0; count = 0; events = 0; line = 0 }) c.loop-k-test.true),
  follow_more c.args.from c.loop-k.k c.args.ends.now _ c.loop-k-test.true c.loop-k.invariant.1 (c.in-None.ensures.fits ∙ ap (λ n. c.args.from + n) c.loop-k.invariant.0),
)

pub returns-clause-follow : goal.returns-clause-follow
returns-clause-follow c = follow_all c.args.from c.loop-k.k c.args.ends.now (omega arith) c.loop-k.invariant.1
