-- One agent more.
use Rattle.std.proofs.Common.{refl, ◌≡◌, ◌+◌, arith}
use Rattle.std.proofs.lemmas.List.FromFn.{map-range_with_len_more}
use Rattle.wdf_dev.specs.Agents.{agent_at}
use Rattle.wdf_dev.proofs.any.agents.Goals as goal

pub loop-agent-preserved : goal.loop-agent-preserved
loop-agent-preserved c =
    let here : 0 + c.loop-agent.agent ≡ c.loop-agent.agent = omega arith in
    rw (c.in_ok-push.ensures.items, c.loop-agent.invariant, map-range_with_len_more (agent_at c.args.plan.now) 0 c.loop-agent.agent c.loop-agent.agent here, ← c.in_ok-next.ensures) refl
