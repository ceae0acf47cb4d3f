-- The verdict that is given is said.
use Rattle.wdf_top.proofs.Judged.{verdict_told}
use Rattle.wdf_top.proofs.verdict.judge_trace.Goals as goal

pub returns-clause-told : goal.returns-clause-told
returns-clause-told g c = verdict_told c.args.core.now.plan c.args.trace.now c.replay-verdict.result _ _ _ c.replay-verdict.ensures.verdict c.replay-verdict.ensures.left (rw c.journal_len.ensures.length at c.say_verdict.ensures.said)
