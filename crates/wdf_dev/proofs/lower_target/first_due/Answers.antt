-- The first request that is due.
use Rattle.std.proofs.Common.{sym, ◌∙◌, arith}
use Rattle.wdf_model.specs.agents.LowerTarget.{is_due_sent}
use Rattle.wdf_dev.proofs.Gathering.{first_is, more_fail, none_is}
use Rattle.wdf_dev.proofs.lower_target.first_due.Goals as goal

pub returns-then-is_due : goal.returns-then-is_due
returns-then-is_due c =
    first_is (is_due_sent c.args.now) c.args.sent.now c.loop-at.at _ c.loop-at-test.true c.loop-at.invariant (sym c.is_due.ensures ∙ c.if-is_due.true)

pub loop-at-preserved : goal.loop-at-preserved
loop-at-preserved c =
    more_fail (is_due_sent c.args.now) c.args.sent.now c.loop-at.at _ c.loop-at-test.true c.loop-at.invariant (sym c.is_due.ensures ∙ c.if-is_due.false)

pub returns : goal.returns
returns c = none_is (is_due_sent c.args.now) c.args.sent.now (λ k a l. c.loop-at.invariant k a (omega arith))
