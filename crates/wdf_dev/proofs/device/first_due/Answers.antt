-- The first action that is due.
use Rattle.std.proofs.Common.{sym, ◌∙◌, arith}
use Rattle.wdf_dev.specs.Actions.{is_due}
use Rattle.wdf_dev.proofs.Gathering.{first_is, more_fail, none_is}
use Rattle.wdf_dev.proofs.device.first_due.Goals as goal

pub returns-then-is_due-clause-place : goal.returns-then-is_due-clause-place
returns-then-is_due-clause-place c =
    first_is (is_due c.args.now) c.args.actions.now c.loop-at.at _ c.loop-at-test.true c.loop-at.invariant (sym c.is_due.ensures ∙ c.if-is_due.true)

pub loop-at-preserved : goal.loop-at-preserved
loop-at-preserved c =
    more_fail (is_due c.args.now) c.args.actions.now c.loop-at.at _ c.loop-at-test.true c.loop-at.invariant (sym c.is_due.ensures ∙ c.if-is_due.false)

pub returns-clause-place : goal.returns-clause-place
returns-clause-place c = none_is (is_due c.args.now) c.args.actions.now (λ k a l. c.loop-at.invariant k a (omega arith))
