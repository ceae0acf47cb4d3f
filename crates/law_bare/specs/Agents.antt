-- The program's agents without the numbers of lines. (own)
use Rattle.std.specs.Prelude.{◌≡◌, ℕ, map, option_map}
use Rattle.wdf_base.specs.declared.plan.Plan.{Plan}
use Rattle.wdf_model.specs.declared.entries.DeviceAction.{DeviceAction}
use Rattle.wdf_model.specs.agents.App.{App}
use Rattle.wdf_model.specs.agents.Device.{Device, device_actions}
use Rattle.wdf_dev.specs.declared.any.AnyAgent.{AnyAgent}
use Rattle.wdf_dev.specs.declared.any.AnyAgent.TheVariants as agent
use Rattle.law_bare.specs.Lines.{bare_post, bare_when}

-- an app, or the Plug and Play manager, with the number 0 for each of its lines
abbrev pub bare_app : App → App
bare_app p = record p { lines = map bare_post p.lines }

-- an action of a device, likewise, and a device
abbrev pub bare_action : DeviceAction → DeviceAction
bare_action l = record l { line = 0; trigger = option_map bare_when l.trigger }

abbrev pub bare_device : Device → Device
bare_device d = record d { actions = map bare_action d.actions }

-- an agent, likewise; a target has no lines
abbrev pub bare_agent_of : AnyAgent → AnyAgent
bare_agent_of (agent.PnpManager p) = agent.PnpManager (bare_app p)
bare_agent_of (agent.App p) = agent.App (bare_app p)
bare_agent_of (agent.Device d) = agent.Device (bare_device d)
bare_agent_of (agent.LowerTarget t) = agent.LowerTarget t

-- each device of both plans has the same actions in the same order, but for line numbers
abbrev pub SameActions : Plan → Plan → Type 0
SameActions one two = (d k : ℕ) → map bare_action (device_actions one d k) ≡ map bare_action (device_actions two d k)
