-- No agent before this place has a later post.
use Rattle.std.proofs.Common.{sym, ◌∙◌, length, arith}
use Rattle.wdf_ready.proofs.AnyOf.{any_place, has_at, next_id_fails, no_id, some_id}
use Rattle.wdf_ready.proofs.endings.any_posts_later.Goals as goal

pub returns-then-posts_later : goal.returns-then-posts_later
returns-then-posts_later g c =
    let next = g.A.Agent.meaning.next in
    let agents = c.args.parts.now.agents in
    let below = c.loop-agent-test.true in
    sym (sym (any_place next agents)
    ∙ some_id (has_at next agents) (length agents) c.loop-agent.agent (omega (arith, c.agent_len-agent-end.ensures)) (sym c.posts_later.ensures ∙ c.if-posts_later.true))

pub loop-agent-preserved : goal.loop-agent-preserved
loop-agent-preserved g c =
    next_id_fails (has_at g.A.Agent.meaning.next c.args.parts.now.agents) c.loop-agent.agent c.loop-agent.invariant (sym c.posts_later.ensures ∙ c.if-posts_later.false)

pub returns : goal.returns
returns g c =
    let next = g.A.Agent.meaning.next in
    let agents = c.args.parts.now.agents in
    let over = c.loop-agent-test.false in
    sym (sym (any_place next agents)
    ∙ no_id (has_at next agents) (length agents) c.loop-agent.agent (omega (arith, c.agent_len-agent-end.ensures)) c.loop-agent.invariant)
