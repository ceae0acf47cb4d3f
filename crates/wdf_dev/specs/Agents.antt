-- The agents of a run: wdf_model's, as the variants of one Rust type.
use Rattle.std.specs.Prelude.{if◌then◌else◌, ℕ, ◌==◌, Option, Some, None}
use Rattle.wdf_base.specs.Meaning.{Meaning}
use Rattle.wdf_base.specs.declared.plan.Plan.{Plan}
use Rattle.wdf_base.specs.declared.event.Event.{Event}
use Rattle.wdf_base.specs.declared.event.Post.{Post}
use Rattle.wdf_model.specs.Plans.{device_of_agent, is_app, target_of_agent}
use Rattle.wdf_model.specs.agents.App as app
use Rattle.wdf_model.specs.agents.PnpManager.{manager_at}
use Rattle.wdf_model.specs.agents.Device as device
use Rattle.wdf_model.specs.agents.LowerTarget as target
use Rattle.wdf_model.specs.agents.AnyAgent as model
use Rattle.wdf_dev.specs.declared.any.AnyAgent.{AnyAgent}
use Rattle.wdf_dev.specs.declared.any.AnyAgent.TheVariants as agent

abbrev pub device_or_target : Plan → ℕ → Option ℕ → Option ℕ → AnyAgent
device_or_target plan k (Some d) t = agent.Device (device.device_at plan d k)
device_or_target plan k None (Some t) = agent.LowerTarget (target.target_at plan t k)
device_or_target plan k None None = agent.App (app.app_at plan k)

-- the agents by number: the Plug and Play manager, the apps, the devices, the targets (own)
abbrev pub agent_at : Plan → ℕ → AnyAgent
agent_at plan k =
    if k == 0 then agent.PnpManager (manager_at plan)
    else if is_app plan k then agent.App (app.app_at plan k)
    else device_or_target plan k (device_of_agent plan k) (target_of_agent plan k)

abbrev pub agent_after : AnyAgent → Event → AnyAgent
agent_after (agent.PnpManager p) e = agent.PnpManager (app.app_after p e)
agent_after (agent.App p) e = agent.App (app.app_after p e)
agent_after (agent.Device d) e = agent.Device (device.device_after d e)
agent_after (agent.LowerTarget t) e = agent.LowerTarget (target.target_after t e)

abbrev pub agent_due : AnyAgent → Option Post
agent_due (agent.PnpManager p) = app.app_due p
agent_due (agent.App p) = app.app_due p
agent_due (agent.Device d) = device.device_due d
agent_due (agent.LowerTarget t) = target.target_due t

abbrev pub agent_next : AnyAgent → Option ℕ
agent_next (agent.PnpManager p) = app.app_next p
agent_next (agent.App p) = app.app_next p
agent_next (agent.Device d) = device.device_next d
agent_next (agent.LowerTarget t) = target.target_next t

abbrev pub agent_value : AnyAgent → ℕ → ℕ
agent_value (agent.Device d) what = device.device_value d what
agent_value _ what = 0

abbrev pub agent_meaning : Meaning AnyAgent
agent_meaning = record { begin = agent_at; fold = agent_after; due = agent_due; next = agent_next; value = agent_value }

-- an agent as wdf_model has it
abbrev pub as_model : AnyAgent → model.AnyAgent
as_model (agent.PnpManager p) = model.PnpManager p
as_model (agent.App p) = model.App p
as_model (agent.Device d) = model.Device d
as_model (agent.LowerTarget t) = model.LowerTarget t
