-- A step more.
use Rattle.std.proofs.Common.{sym, ◌∙◌}
use Rattle.wdf_explain.proofs.Rounds.{steps_more}
use Rattle.wdf_explain.proofs.circle.push_steps.Goals as goal

pub loop-step-preserved : goal.loop-step-preserved
loop-step-preserved c =
    steps_more c.args.nexts.now c.args.steps c.loop-step._step c.loop-step.at c.in-Some.next c.loop-step.out _ _ c.loop-step-test.true (sym c.next_at.ensures ∙ c.in-Some.is)
    c.in_ok-push_counted-in-Some.ensures c.loop-step.invariant
