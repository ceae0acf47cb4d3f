-- What the verdict says of the trace.
use Rattle.std.proofs.Common.{subst, ◌∙◌}
use Rattle.wdf_dev.specs.Agents.{agent_meaning}
use Rattle.wdf_replay.specs.Verdicts.{GivesVerdict, IsLeft}
use Rattle.wdf_hunt.proofs.Explained.{bad_told, story_told}
use Rattle.wdf_hunt.proofs.explain.tell_trace.Goals as goal

pub returns-in-Accepted-clause-told : goal.returns-in-Accepted-clause-told
returns-in-Accepted-clause-told g c =
    story_told c.args.core.now.plan c.replay.new.core.plan c.args.trace.now c.in-Accepted.field-0 c.replay.new.core.journal _ _ c.replay.ensures.plan
    (subst (λ v. IsLeft c.args.core.now.plan agent_meaning c.args.trace.now v c.replay.new.core.journal) c.in-Accepted.is c.replay.ensures.left) c.tell_ending.ensures.told

pub returns-in-RefusedAt-clause-told : goal.returns-in-RefusedAt-clause-told
returns-in-RefusedAt-clause-told g c =
    bad_told c.args.core.now.plan c.args.trace.now c.in-RefusedAt.line c.in-RefusedAt.why _ _
    (subst (GivesVerdict c.args.core.now.plan agent_meaning c.args.trace.now) c.in-RefusedAt.is c.replay.ensures.verdict)
    (rw (c.bytes.ensures ∙ c.refused_line.ensures) at c.say.ensures.said)
