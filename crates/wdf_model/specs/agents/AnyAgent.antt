-- The agents of a run, by number: the Plug and Play manager, the apps, the devices, the targets. (own)
use Rattle.std.specs.Prelude.{if◌then◌else◌, ℕ, ◌==◌, fold, Option, Some, None}
use Rattle.wdf_base.specs.Meaning.{Meaning}
use Rattle.wdf_base.specs.declared.plan.Plan.{Plan}
use Rattle.wdf_base.specs.declared.event.Post.{Post}
use Rattle.wdf_base.specs.declared.event.Event.{Event}
use Rattle.wdf_model.specs.Plans.{device_of_agent, is_app, target_of_agent}
use Rattle.wdf_model.specs.agents.App as app
use Rattle.wdf_model.specs.agents.PnpManager.{manager_at}
use Rattle.wdf_model.specs.agents.Device as device
use Rattle.wdf_model.specs.agents.LowerTarget as target

-- what is kept of an agent, by what it is; the manager keeps what an app does, for it posts its lines in order too
pub data AnyAgent : Type 0 where
  PnpManager : (p : app.App) → AnyAgent
  App : (p : app.App) → AnyAgent
  Device : (d : device.Device) → AnyAgent
  LowerTarget : (t : target.LowerTarget) → AnyAgent

-- agent k at the opening, where it is that of device d, else of target t; a number that is neither's reads as an app
abbrev pub device_or_target : Plan → ℕ → Option ℕ → Option ℕ → AnyAgent
device_or_target plan k (Some d) t = Device (device.device_at plan d k)
device_or_target plan k None (Some t) = LowerTarget (target.target_at plan t k)
device_or_target plan k None None = App (app.app_at plan k)

-- agent k at the opening: 0 is the manager, then come the apps, the devices and the targets
abbrev pub agent_at : Plan → ℕ → AnyAgent
agent_at plan k =
    if k == 0 then PnpManager (manager_at plan)
    else if is_app plan k then App (app.app_at plan k)
    else device_or_target plan k (device_of_agent plan k) (target_of_agent plan k)

-- an agent after one event more of the run
abbrev pub agent_after : AnyAgent → Event → AnyAgent
agent_after (PnpManager p) e = PnpManager (app.app_after p e)
agent_after (App p) e = App (app.app_after p e)
agent_after (Device d) e = Device (device.device_after d e)
agent_after (LowerTarget t) e = LowerTarget (target.target_after t e)

-- what an agent posts now, None where nothing of it is due
abbrev pub agent_due : AnyAgent → Option Post
agent_due (PnpManager p) = app.app_due p
agent_due (App p) = app.app_due p
agent_due (Device d) = device.device_due d
agent_due (LowerTarget t) = target.target_due t

-- the least later tick at which an agent has something due, None where it waits for no tick
abbrev pub agent_next : AnyAgent → Option ℕ
agent_next (PnpManager p) = app.app_next p
agent_next (App p) = app.app_next p
agent_next (Device d) = device.device_next d
agent_next (LowerTarget t) = target.target_next t

-- what an agent shows under number `what`: a device its registers and level lines, each other agent 0
abbrev pub agent_value : AnyAgent → ℕ → ℕ
agent_value (Device d) what = device.device_value d what
agent_value _ what = 0

-- the agents of the program: what each is at the opening, how an event changes it, and what it posts and shows
abbrev pub agents : Meaning AnyAgent
agents = record { begin = agent_at; fold = agent_after; due = agent_due; next = agent_next; value = agent_value }
