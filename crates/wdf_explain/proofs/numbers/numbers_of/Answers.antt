-- One event more.
use Rattle.wdf_explain.proofs.Walks.{numbers_step}
use Rattle.wdf_explain.proofs.numbers.numbers_of.Goals as goal

pub loop-k-preserved : goal.loop-k-preserved
loop-k-preserved c =
    numbers_step c.args.asked c.args.events.now c.loop-k.k _ c.loop-k.numbers.items _ c.is_for.result c.loop-k-test.true c.in_ok-push_if.ensures c.is_for.ensures c.loop-k.invariant
