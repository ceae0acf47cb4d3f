-- A step more.
use Rattle.std.proofs.Common.{sym, ◌∙◌}
use Rattle.wdf_explain.proofs.Rounds.{follow_more}
use Rattle.wdf_explain.proofs.circle.follow.Goals as goal

pub loop-step-preserved : goal.loop-step-preserved
loop-step-preserved c =
    follow_more c.args.nexts.now c.args.steps c.loop-step._step c.loop-step.at c.in-Some.next _ c.loop-step-test.true (sym c.next_at.ensures ∙ c.in-Some.is) c.loop-step.invariant
