-- A turn more, backwards.
use Rattle.std.proofs.Common.{arith}
use Rattle.wdf_explain.proofs.Backwards.{comes_to, goes_on}
use Rattle.wdf_explain.proofs.turns.top_after.Goals as goal

pub returns-in-Some : goal.returns-in-Some
returns-in-Some c =
    comes_to c.args.cpu.0 c.args.events.now c.loop-left.left c.loop-left.depth c.in-Some.frame c.turn_of-turn.result _ c.found.result _ c.loop-left-test.true
    (omega (arith, c.loop-left-test.true, c.loop-left.invariant.1, c.requires)) c.turn_of-turn.ensures c.found.ensures c.in-Some.is c.loop-left.invariant.0

pub loop-left-preserved : goal.loop-left-preserved
loop-left-preserved c = (
  goes_on c.args.cpu.0 c.args.events.now c.loop-left.left c.loop-left.depth c.depth_before-depth.result c.turn_of-turn.result _ c.found.result _ c.loop-left-test.true
      (omega (arith, c.loop-left-test.true, c.loop-left.invariant.1, c.requires)) c.turn_of-turn.ensures c.found.ensures c.in-None.is c.depth_before-depth.ensures.value c.loop-left.invariant.0,
  omega (arith, c.depth_before-depth.ensures.small, c.loop-left.invariant.1, c.loop-left-test.true),
)
