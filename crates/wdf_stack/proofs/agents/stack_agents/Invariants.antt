-- The agents so far are those with the first numbers.
use Rattle.std.proofs.Common.{◌≡◌, map}
use Rattle.std.specs.List.{range_with_len}
use Rattle.wdf_stack.specs.Agents.{agent_at}
use Rattle.wdf_stack.proofs.agents.stack_agents.Given as goal

abbrev pub invariant-loop-agent : goal.invariant-loop-agent
invariant-loop-agent l = l.all.items ≡ map (agent_at l.plan) (range_with_len 0 l.agent)
