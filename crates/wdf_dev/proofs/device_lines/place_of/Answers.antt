-- The first action whose line comes after.
use Rattle.std.proofs.Common.{arith}
use Rattle.std.proofs.lemmas.Bool.{le-ltb, lt-ltb}
use Rattle.wdf_dev.specs.Actions.{comes_after}
use Rattle.wdf_dev.proofs.Gathering.{first_is, more_fail, none_is}
use Rattle.wdf_dev.proofs.device_lines.place_of.Goals as goal

pub returns-then-line-action-clause-place : goal.returns-then-line-action-clause-place
returns-then-line-action-clause-place c =
    first_is (comes_after c.args.line) c.args.actions.now c.loop-at.at _ c.loop-at-test.true c.loop-at.invariant (lt-ltb _ _ c.if-line-action.true)

pub loop-at-preserved : goal.loop-at-preserved
loop-at-preserved c =
    more_fail (comes_after c.args.line) c.args.actions.now c.loop-at.at _ c.loop-at-test.true c.loop-at.invariant (le-ltb _ _ c.if-line-action.false)

pub returns-clause-place : goal.returns-clause-place
returns-clause-place c = none_is (comes_after c.args.line) c.args.actions.now (λ k a l. c.loop-at.invariant k a (omega arith))
