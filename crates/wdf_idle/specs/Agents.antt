-- The agents of a run in which idle devices sleep: wdf_model's, as the variants of one Rust type.
use Rattle.std.specs.Prelude.{if◌then◌else◌, ℕ, ◌==◌, Option}
use Rattle.wdf_base.specs.Meaning.{Meaning}
use Rattle.wdf_base.specs.declared.plan.Plan.{Plan}
use Rattle.wdf_base.specs.declared.event.Event.{Event}
use Rattle.wdf_base.specs.declared.event.Post.{Post}
use Rattle.wdf_model.specs.agents.IdlePolicy as policy
use Rattle.wdf_model.specs.agents.IdleAgent as model
use Rattle.wdf_dev.specs.Agents as usual
use Rattle.wdf_idle.specs.declared.idle_agent.IdleAgent.{IdleAgent}
use Rattle.wdf_idle.specs.declared.idle_agent.IdleAgent.TheVariants as agent

-- own: the policy is agent 0, the others are those of every run
abbrev pub idle_agent_at : Plan → ℕ → IdleAgent
idle_agent_at plan k = if k == 0 then agent.Policy (policy.policy_at plan) else agent.Usual (usual.agent_at plan k)

-- own: an agent after an event
abbrev pub idle_agent_after : IdleAgent → Event → IdleAgent
idle_agent_after (agent.Policy p) e = agent.Policy (policy.policy_after p e)
idle_agent_after (agent.Usual a) e = agent.Usual (usual.agent_after a e)

-- own: what it has due
abbrev pub idle_agent_due : IdleAgent → Option Post
idle_agent_due (agent.Policy p) = policy.policy_due p
idle_agent_due (agent.Usual a) = usual.agent_due a

-- own: the least later tick of a post
abbrev pub idle_agent_next : IdleAgent → Option ℕ
idle_agent_next (agent.Policy p) = policy.policy_next p
idle_agent_next (agent.Usual a) = usual.agent_next a

-- own: the policy has no registers and no lines
abbrev pub idle_agent_value : IdleAgent → ℕ → ℕ
idle_agent_value (agent.Policy p) what = 0
idle_agent_value (agent.Usual a) what = usual.agent_value a what

-- own: the five definitions of such an agent
abbrev pub idle_meaning : Meaning IdleAgent
idle_meaning = record { begin = idle_agent_at; fold = idle_agent_after; due = idle_agent_due; next = idle_agent_next; value = idle_agent_value }

-- own: an agent as wdf_model has it
abbrev pub as_model : IdleAgent → model.IdleAgent
as_model (agent.Policy p) = model.Policy p
as_model (agent.Usual a) = model.Usual (usual.as_model a)
