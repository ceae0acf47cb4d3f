-- Power: which devices have their queues up and their hardware, and how far the requests that the
-- driver holds from power-managed queues are acknowledged, asked to stop, or due to go on. (KMDF; the
-- points at which an acknowledgement begins and ceases to count are own)
use Rattle.std.specs.Prelude.{if◌then◌else◌, ℕ, Bool, true, false, ◌==◌, nat_lt, ◌&&◌, not, List, [], map, filter, Option, Some, None}
use Rattle.std.specs.List.{list_any}
use Rattle.wdf_base.specs.declared.plan.Plan.{Plan}
use Rattle.wdf_base.specs.declared.event.Stage.{Stage}
use Rattle.wdf_base.specs.declared.event.Stage.TheVariants as stage
use Rattle.wdf_base.specs.declared.event.Step.{Step}
use Rattle.wdf_base.specs.declared.event.Step.TheVariants as step
use Rattle.wdf_base.specs.declared.declared.DeviceInfo.{DeviceInfo}
use Rattle.wdf_base.specs.declared.call.Callback.TheVariants as callback
use Rattle.wdf_model.specs.Tables.{entry, change_at, ids_of}
use Rattle.wdf_model.specs.Plans.{device_of, device_of_queue, declared_ids, declares}
use Rattle.wdf_model.specs.declared.entries.DevicePower.{DevicePower}
use Rattle.wdf_model.specs.declared.entries.QueuePower.{QueuePower}
use Rattle.wdf_model.specs.declared.entries.Holding.{Holding}

-- what is kept of power: of each device, of each queue, and of each request that is held from a power-managed queue
pub record Power : Type 0 where
  -- by the device's id
  pub devices : List DevicePower
  -- by the queue's id
  pub queues : List QueuePower
  -- by the request's id
  pub holdings : List Holding

-- what reads for an id that is no device's: queues down, no hardware
abbrev pub no_device_power : DevicePower
no_device_power = record { up = false; hardware = false }

-- what reads for an id that is no queue's: no device, no EvtIoResume
abbrev pub no_queue_power : QueuePower
no_queue_power = record { device = record { 0 = 0 }; resumes = false }

-- what reads for a request that isn't held from a power-managed queue
abbrev pub no_holding : Holding
no_holding = record { queue = record { 0 = 0 }; acknowledged = false; stop_asked = false; resume_due = false }

-- ---- readers

-- what is kept of the power of device d
abbrev pub device_power : Power → ℕ → DevicePower
device_power P d = entry no_device_power P.devices d

-- what is kept for power of queue q: its device, and whether it declares EvtIoResume
abbrev pub queue_power : Power → ℕ → QueuePower
queue_power P q = entry no_queue_power P.queues q

-- what is kept for power of request r: from which queue it is held, and how far that has come
abbrev pub holding_of : Power → ℕ → Holding
holding_of P r = entry no_holding P.holdings r

-- whether the queues of device d are up: from its stage `queues_up` to its stage `queues_down`
abbrev pub queues_up : Power → ℕ → Bool
queues_up P d = (device_power P d).up

-- whether device d has its hardware: from its stage `hardware` to its stage `no_hardware`
abbrev pub has_hardware : Power → ℕ → Bool
has_hardware P d = (device_power P d).hardware

-- whether the driver acknowledged, with WdfRequestStopAcknowledge, that it keeps request r at this power-down
abbrev pub acknowledged : Power → ℕ → Bool
acknowledged P r = (holding_of P r).acknowledged

-- whether EvtIoStop has started for request r at this power-down; it comes once
abbrev pub stop_was_asked : Power → ℕ → Bool
stop_was_asked P r = (holding_of P r).stop_asked

-- whether EvtIoResume is to come for request r
abbrev pub resume_due : Power → ℕ → Bool
resume_due P r = (holding_of P r).resume_due

-- whether a request is held from a power-managed queue at all: no queue has the id 0
abbrev pub is_held : Holding → Bool
is_held h = nat_lt 0 h.queue.0

-- whether a request is held from a power-managed queue of device d
abbrev pub is_held_at : Power → ℕ → Holding → Bool
is_held_at P d h = is_held h && (queue_power P h.queue.0).device.0 == d

-- whether a request is held from a power-managed queue of device d and isn't acknowledged: such a one keeps the stage
-- `settled` waiting (KMDF)
abbrev pub is_unsettled_at : Power → ℕ → Holding → Bool
is_unsettled_at P d h = is_held_at P d h && not h.acknowledged

-- the ids of the requests that are held from device d's power-managed queues and aren't acknowledged, rising
abbrev pub unsettled : Power → ℕ → List ℕ
unsettled P d = filter (λ r. is_unsettled_at P d (holding_of P r)) (ids_of P.holdings)

-- whether EvtIoResume is to come for some request of device d
abbrev pub any_resume_due : Power → ℕ → Bool
any_resume_due P d = list_any (λ h. is_held_at P d h && h.resume_due) P.holdings

-- ---- acts

-- what is kept for power of request r changes by f, and no other
abbrev pub with_holding : Power → ℕ → (Holding → Holding) → Power
with_holding P r f = record P { holdings = change_at no_holding P.holdings r f }

-- request r is held from power-managed queue q from now on
abbrev pub held_more : Power → ℕ → ℕ → Power
held_more P r q = with_holding P r (λ _. record { queue = record { 0 = q }; acknowledged = false; stop_asked = false; resume_due = false })

-- request r is held no more, and nothing of it is acknowledged, asked or due
abbrev pub held_less : Power → ℕ → Power
held_less P r = with_holding P r (λ _. no_holding)

-- request r is acknowledged: the driver keeps it over the power-down (KMDF)
abbrev pub acknowledge : Power → ℕ → Power
acknowledge P r = with_holding P r (λ h. record h { acknowledged = true })

-- EvtIoStop for request r starts
abbrev pub stop_asked : Power → ℕ → Power
stop_asked P r = with_holding P r (λ h. record h { stop_asked = true })

-- EvtIoResume for request r starts
abbrev pub resumed : Power → ℕ → Power
resumed P r = with_holding P r (λ h. record h { resume_due = false })

-- the queues of device d are up, or down
abbrev pub with_up : Power → ℕ → Bool → Power
with_up P d up = record P { devices = change_at no_device_power P.devices d (λ x. record x { up = up }) }

-- device d has its hardware, or hasn't
abbrev pub with_hardware : Power → ℕ → Bool → Power
with_hardware P d hardware = record P { devices = change_at no_device_power P.devices d (λ x. record x { hardware = hardware }) }

-- a held request, where device d's queues come up: if it is of that device, its resume is due where its queue
-- declares EvtIoResume (KMDF), and what was acknowledged or asked counts no more (own)
abbrev pub woken : Power → ℕ → Holding → Holding
woken P d h =
    if is_held_at P d h then record { queue = h.queue; acknowledged = false; stop_asked = false; resume_due = (queue_power P h.queue.0).resumes }
    else h

-- each request that is held from a power-managed queue of device d, as these queues come up
abbrev pub wake_holdings : Power → ℕ → Power
wake_holdings P d = record P { holdings = map (woken P d) P.holdings }

-- what a stage of device d does to power; the stages that aren't in the table do nothing to it
abbrev pub advance_stage : Power → ℕ → Stage → Power
-- own: the device's hardware begins
advance_stage P d stage.Hardware = with_hardware P d true
-- own: and ends
advance_stage P d stage.NoHardware = with_hardware P d false
-- own: delivery goes on; acknowledgement and stop asked end, and resumes are due
advance_stage P d stage.QueuesUp = wake_holdings (with_up P d true) d
-- own: delivery by power stops
advance_stage P d stage.QueuesDown = with_up P d false
advance_stage P d _ = P

-- what a step of device d does to power: a callback nothing, a stage what the table says
abbrev pub advance : Power → ℕ → Step → Power
advance P d (step.Run c i) = P
advance P d (step.Pass s i) = advance_stage P d s

-- ---- the opening

-- own: a device that the text calls working is as if a power-up without callbacks had ended; the others are off
abbrev pub opening_device_power : Option DeviceInfo → DevicePower
opening_device_power None = no_device_power
opening_device_power (Some d) = record { up = d.working; hardware = d.working }

-- what power has to know of queue q, which the plan says for the whole run
abbrev pub opening_queue_power : Plan → ℕ → QueuePower
opening_queue_power plan q = record { device = record { 0 = device_of_queue plan q }; resumes = declares plan callback.EvtIoResume q }

-- power at the opening: no request is held
abbrev pub opening_power : Plan → Power
opening_power plan = record {
  devices = map (λ d. opening_device_power (device_of plan d)) (declared_ids plan);
  queues = map (opening_queue_power plan) (declared_ids plan);
  holdings = [];
}
