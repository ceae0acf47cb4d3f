-- The agents of a run with the idle policy: it takes the place of the Plug and Play manager, and the others are as ever. (own)
use Rattle.std.specs.Prelude.{if◌then◌else◌, ℕ, ◌==◌, Option}
use Rattle.wdf_base.specs.Meaning.{Meaning}
use Rattle.wdf_base.specs.declared.plan.Plan.{Plan}
use Rattle.wdf_base.specs.declared.event.Post.{Post}
use Rattle.wdf_base.specs.declared.event.Event.{Event}
use Rattle.wdf_model.specs.agents.AnyAgent.{AnyAgent, agent_at, agent_after, agent_due, agent_next, agent_value}
use Rattle.wdf_model.specs.agents.IdlePolicy.{IdlePolicy, policy_at, policy_after, policy_due, policy_next}

-- own: the policy, or an agent of every run
pub data IdleAgent : Type 0 where
  Policy : (p : IdlePolicy) → IdleAgent
  Usual : (a : AnyAgent) → IdleAgent

-- own: the policy is agent 0
abbrev pub idle_agent_at : Plan → ℕ → IdleAgent
idle_agent_at plan k = if k == 0 then Policy (policy_at plan) else Usual (agent_at plan k)

-- own: an agent after an event
abbrev pub idle_agent_after : IdleAgent → Event → IdleAgent
idle_agent_after (Policy p) e = Policy (policy_after p e)
idle_agent_after (Usual a) e = Usual (agent_after a e)

-- own: what it has due
abbrev pub idle_agent_due : IdleAgent → Option Post
idle_agent_due (Policy p) = policy_due p
idle_agent_due (Usual a) = agent_due a

-- own: the least later tick of a post
abbrev pub idle_agent_next : IdleAgent → Option ℕ
idle_agent_next (Policy p) = policy_next p
idle_agent_next (Usual a) = agent_next a

-- own: the policy has no registers and no lines
abbrev pub idle_agent_value : IdleAgent → ℕ → ℕ
idle_agent_value (Policy p) what = 0
idle_agent_value (Usual a) what = agent_value a what

-- the agents of the program where idle devices sleep
abbrev pub idle_agents : Meaning IdleAgent
idle_agents = record { begin = idle_agent_at; fold = idle_agent_after; due = idle_agent_due; next = idle_agent_next; value = idle_agent_value }
