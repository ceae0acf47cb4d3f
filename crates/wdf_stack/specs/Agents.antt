-- The agents of a run with stacks of devices: wdf_model's, as the variants of one Rust type.
use Rattle.std.specs.Prelude.{if◌then◌else◌, ℕ, ◌==◌, Option, Some, None}
use Rattle.wdf_base.specs.Meaning.{Meaning}
use Rattle.wdf_base.specs.declared.plan.Plan.{Plan}
use Rattle.wdf_base.specs.declared.event.Event.{Event}
use Rattle.wdf_base.specs.declared.event.Post.{Post}
use Rattle.wdf_model.specs.Plans.{device_of_agent, is_app, target_of_agent}
use Rattle.wdf_model.specs.agents.App as app
use Rattle.wdf_model.specs.agents.Chains.{connected_to}
use Rattle.wdf_model.specs.agents.Connector as connector
use Rattle.wdf_model.specs.agents.Device as device
use Rattle.wdf_model.specs.agents.LowerTarget as target
use Rattle.wdf_model.specs.agents.StackManager as manager
use Rattle.wdf_model.specs.agents.StackAgent as model
use Rattle.wdf_stack.specs.declared.agents.StackAgent.{StackAgent}
use Rattle.wdf_stack.specs.declared.agents.StackAgent.TheVariants as agent

-- the agent of a target: a connector where it is connected
abbrev pub target_agent : Plan → ℕ → ℕ → Option ℕ → StackAgent
target_agent plan t k None = agent.LowerTarget (target.target_at plan t k)
target_agent plan t k (Some lower) = agent.Connector (connector.connector_at plan t lower k)

-- the agent of a device or of a target
abbrev pub device_or_target : Plan → ℕ → Option ℕ → Option ℕ → StackAgent
device_or_target plan k (Some d) t = agent.Device (device.device_at plan d k)
device_or_target plan k None (Some t) = target_agent plan t k (connected_to plan t)
device_or_target plan k None None = agent.App (app.app_at plan k)

-- the agents by number: the stack manager, the apps, the devices, the targets (own)
abbrev pub agent_at : Plan → ℕ → StackAgent
agent_at plan k =
    if k == 0 then agent.StackManager (manager.stack_manager_at plan)
    else if is_app plan k then agent.App (app.app_at plan k)
    else device_or_target plan k (device_of_agent plan k) (target_of_agent plan k)

-- an agent after an event
abbrev pub agent_after : StackAgent → Event → StackAgent
agent_after (agent.StackManager m) e = agent.StackManager (manager.stack_manager_after m e)
agent_after (agent.App p) e = agent.App (app.app_after p e)
agent_after (agent.Device d) e = agent.Device (device.device_after d e)
agent_after (agent.LowerTarget t) e = agent.LowerTarget (target.target_after t e)
agent_after (agent.Connector c) e = agent.Connector (connector.connector_after c e)

-- the post that is due for an agent
abbrev pub agent_due : StackAgent → Option Post
agent_due (agent.StackManager m) = manager.stack_manager_due m
agent_due (agent.App p) = app.app_due p
agent_due (agent.Device d) = device.device_due d
agent_due (agent.LowerTarget t) = target.target_due t
agent_due (agent.Connector c) = connector.connector_due c

-- the least later tick of a post
abbrev pub agent_next : StackAgent → Option ℕ
agent_next (agent.StackManager m) = manager.stack_manager_next m
agent_next (agent.App p) = app.app_next p
agent_next (agent.Device d) = device.device_next d
agent_next (agent.LowerTarget t) = target.target_next t
agent_next (agent.Connector c) = None

-- a register or a level line, of a device
abbrev pub agent_value : StackAgent → ℕ → ℕ
agent_value (agent.Device d) what = device.device_value d what
agent_value _ what = 0

-- the five definitions of these agents
abbrev pub stack_meaning : Meaning StackAgent
stack_meaning = record { begin = agent_at; fold = agent_after; due = agent_due; next = agent_next; value = agent_value }

-- an agent as wdf_model has it
abbrev pub as_model : StackAgent → model.StackAgent
as_model (agent.StackManager m) = model.StackManager m
as_model (agent.App p) = model.App p
as_model (agent.Device d) = model.Device d
as_model (agent.LowerTarget t) = model.LowerTarget t
as_model (agent.Connector c) = model.Connector c
