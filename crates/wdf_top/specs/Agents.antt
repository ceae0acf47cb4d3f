-- Which agents a run has: what outside the framework acts on it. (own)
use Rattle.wdf_base.specs.Meaning.{Meaning}
use Rattle.wdf_dev.specs.Agents.{agent_meaning}
use Rattle.wdf_dev.specs.declared.any.AnyAgent.{AnyAgent}
use Rattle.wdf_idle.specs.Agents.{idle_meaning}
use Rattle.wdf_idle.specs.declared.idle_agent.IdleAgent.{IdleAgent}
use Rattle.wdf_stack.specs.Agents.{stack_meaning}
use Rattle.wdf_stack.specs.declared.agents.StackAgent.{StackAgent}

-- the agents that a run may have
pub data RunAgents : Type 0 where
  -- the Plug and Play manager, the apps, the devices and the drivers below their targets
  Usual : RunAgents
  -- the same, with the idle policy in the place of the Plug and Play manager
  Idle : RunAgents
  -- the same, with the stack manager in that place, and a connector for each target that is connected to a device
  Stacked : RunAgents

-- their Rust type
abbrev pub AgentOf : RunAgents → Type 0
AgentOf Usual = AnyAgent
AgentOf Idle = IdleAgent
AgentOf Stacked = StackAgent

-- what they are
abbrev pub meaning_of : (a : RunAgents) → Meaning (AgentOf a)
meaning_of Usual = agent_meaning
meaning_of Idle = idle_meaning
meaning_of Stacked = stack_meaning
