-- The agents before the index were told, and the others are as they were.
use Rattle.std.proofs.Common.{◌≡◌, ◌++◌, map, take, drop}
use Rattle.wdf_parts.proofs.parts.feed_all.Given as goal

abbrev pub invariant-loop-agent : goal.invariant-loop-agent
invariant-loop-agent g l = l.agents ≡ map (λ a. g.A.Agent.meaning.fold a l.event) (take l.agent-index l.initial.agents) ++ drop l.agent-index l.initial.agents
