-- The agents of a run with stacks of devices, by number: those of the program, with the stack manager as agent 0 and a
-- connector for each connected target. (own)
use Rattle.std.specs.Prelude.{if◌then◌else◌, ℕ, ◌==◌, Option, Some, None}
use Rattle.wdf_base.specs.Meaning.{Meaning}
use Rattle.wdf_base.specs.declared.plan.Plan.{Plan}
use Rattle.wdf_base.specs.declared.event.Post.{Post}
use Rattle.wdf_base.specs.declared.event.Event.{Event}
use Rattle.wdf_model.specs.Plans.{device_of_agent, is_app, target_of_agent}
use Rattle.wdf_model.specs.agents.App as app
use Rattle.wdf_model.specs.agents.Device as device
use Rattle.wdf_model.specs.agents.LowerTarget as target
use Rattle.wdf_model.specs.agents.Chains.{connected_to}
use Rattle.wdf_model.specs.agents.Connector as connector
use Rattle.wdf_model.specs.agents.StackManager as manager

-- an agent of a run with stacks
pub data StackAgent : Type 0 where
  StackManager : (m : manager.StackManager) → StackAgent
  App : (p : app.App) → StackAgent
  Device : (d : device.Device) → StackAgent
  LowerTarget : (t : target.LowerTarget) → StackAgent
  Connector : (c : connector.Connector) → StackAgent

-- the agent of a target: a connector where it is connected
abbrev pub target_agent : Plan → ℕ → ℕ → Option ℕ → StackAgent
target_agent plan t k None = LowerTarget (target.target_at plan t k)
target_agent plan t k (Some lower) = Connector (connector.connector_at plan t lower k)

-- the agent of a device or of a target
abbrev pub device_or_target : Plan → ℕ → Option ℕ → Option ℕ → StackAgent
device_or_target plan k (Some d) t = Device (device.device_at plan d k)
device_or_target plan k None (Some t) = target_agent plan t k (connected_to plan t)
device_or_target plan k None None = App (app.app_at plan k)

-- the agent with a number at the opening
abbrev pub agent_at : Plan → ℕ → StackAgent
agent_at plan k =
    if k == 0 then StackManager (manager.stack_manager_at plan)
    else if is_app plan k then App (app.app_at plan k)
    else device_or_target plan k (device_of_agent plan k) (target_of_agent plan k)

-- an agent after an event
abbrev pub agent_after : StackAgent → Event → StackAgent
agent_after (StackManager m) e = StackManager (manager.stack_manager_after m e)
agent_after (App p) e = App (app.app_after p e)
agent_after (Device d) e = Device (device.device_after d e)
agent_after (LowerTarget t) e = LowerTarget (target.target_after t e)
agent_after (Connector c) e = Connector (connector.connector_after c e)

-- the post that is due for an agent
abbrev pub agent_due : StackAgent → Option Post
agent_due (StackManager m) = manager.stack_manager_due m
agent_due (App p) = app.app_due p
agent_due (Device d) = device.device_due d
agent_due (LowerTarget t) = target.target_due t
agent_due (Connector c) = connector.connector_due c

-- the least later tick of a post; a connector waits for no tick
abbrev pub agent_next : StackAgent → Option ℕ
agent_next (StackManager m) = manager.stack_manager_next m
agent_next (App p) = app.app_next p
agent_next (Device d) = device.device_next d
agent_next (LowerTarget t) = target.target_next t
agent_next (Connector c) = None

-- a register or a level line, of a device
abbrev pub agent_value : StackAgent → ℕ → ℕ
agent_value (Device d) what = device.device_value d what
agent_value _ what = 0

-- the agents of the word `stack`
abbrev pub stack_agents : Meaning StackAgent
stack_agents = record { begin = agent_at; fold = agent_after; due = agent_due; next = agent_next; value = agent_value }
