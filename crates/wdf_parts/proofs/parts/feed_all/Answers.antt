-- One agent more was told.
use Rattle.std.proofs.Common.{◌<◌, length, arith}
use Rattle.std.proofs.lemmas.List.Edits.{map_over_more}
use Rattle.wdf_parts.proofs.parts.feed_all.Goals as goal

pub loop-agent-preserved : goal.loop-agent-preserved
loop-agent-preserved g c =
    let within : c.loop-agent.agent-index < length c.args.agents.now = omega arith in
    rw (c.feed.ensures, ← c.agent-item.is) (map_over_more (λ a. g.A.Agent.meaning.fold a c.args.event.now) c.args.agents.now c.loop-agent.agents c.loop-agent.agent-index c.agent-item.result within c.loop-agent.invariant c.agent-item.is)
