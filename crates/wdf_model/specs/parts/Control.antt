-- Queue control: the modes of the queues, their notification, and the devices that are closed. (KMDF)
use Rattle.std.specs.Prelude.{if◌then◌else◌, ℕ, Bool, true, false, ◌==◌, ◌&&◌, ◌||◌, List, [], map, Option, Some, None}
use Rattle.wdf_base.specs.declared.plan.Plan.{Plan}
use Rattle.wdf_base.specs.declared.declared.QueueInfo.{QueueInfo}
use Rattle.wdf_model.specs.declared.enums.Mode.{Mode}
use Rattle.wdf_model.specs.declared.enums.Mode.TheVariants.{Started, Stopped, Drained, Purged}
use Rattle.wdf_model.specs.Tables.{entry, change_at, put}
use Rattle.wdf_model.specs.Plans.{queue_of, declared_ids}
use Rattle.wdf_model.specs.declared.entries.QueueControl.{QueueControl}

-- the control of all queues, and which devices are closed
pub record Control : Type 0 where
  -- by the queue's id
  pub controls : List QueueControl
  -- by the device's id
  pub closed : List Bool

-- what reads for an id that is no queue's: Purged, so that it neither accepts nor delivers
abbrev pub no_control : QueueControl
no_control = record { device = record { 0 = 0 }; mode = Purged; registered = false; due = false }

-- ---- readers

-- the control of queue q: its mode, and its notification
abbrev pub control_of : Control → ℕ → QueueControl
control_of M q = entry no_control M.controls q

-- the mode of queue q: Started, Stopped, Drained or Purged, by the last control call (KMDF)
abbrev pub mode_of : Control → ℕ → Mode
mode_of M q = (control_of M q).mode

-- whether a device is closed: from its stage `closed` on, for good (own)
abbrev pub is_closed : Control → ℕ → Bool
is_closed M device = entry false M.closed device

-- KMDF: a queue accepts in Started and Stopped
abbrev pub accepts_in : Mode → Bool
accepts_in Started = true
accepts_in Stopped = true
accepts_in Drained = false
accepts_in Purged = false

-- KMDF: a queue delivers in Started and Drained
abbrev pub delivers_in : Mode → Bool
delivers_in Started = true
delivers_in Stopped = false
delivers_in Drained = true
delivers_in Purged = false

-- whether a mode is Purged: then a requeued request is cancelled in its queue at once
abbrev pub is_purged : Mode → Bool
is_purged Purged = true
is_purged _ = false

-- whether queue q accepts new requests, by its mode (KMDF)
abbrev pub accepts : Control → ℕ → Bool
accepts M q = accepts_in (mode_of M q)

-- KMDF: queue q delivers by its mode, where it has power, which the last argument says
abbrev pub delivers : Control → ℕ → Bool → Bool
delivers M q powered = delivers_in (mode_of M q) && powered

-- whether EvtIoQueueState is to come for queue q
abbrev pub notify_due : Control → ℕ → Bool
notify_due M q = (control_of M q).due

-- ---- acts

-- the control of queue q changes by f, and no other
abbrev pub with_control : Control → ℕ → (QueueControl → QueueControl) → Control
with_control M q f = record M { controls = change_at no_control M.controls q f }

-- a control call gives queue q a mode; own: the queues of a closed device stay Purged
abbrev pub set_mode : Control → ℕ → Mode → Control
set_mode M q mode = if is_closed M (control_of M q).device.0 then M else with_control M q (λ c. record c { mode = mode })

-- a queue, where this device is closed: Purged, if it is one of the device's (own)
abbrev pub shut_control : ℕ → QueueControl → QueueControl
shut_control device c = if c.device.0 == device then record c { mode = Purged } else c

-- a device is closed, and its queues are Purged for good (own)
abbrev pub shut : Control → ℕ → Control
shut M device = record { controls = map (shut_control device) M.controls; closed = put false M.closed device true }

-- own: notification of queue q is registered (`on`) or not, also where it was so before; what is due stays due
abbrev pub notify : Control → ℕ → Bool → Control
notify M q on = with_control M q (λ c. record c { registered = on })

-- a request entered queue q: where the queue was empty and notification is registered, EvtIoQueueState is due (KMDF)
abbrev pub entered : Control → ℕ → Bool → Control
entered M q was_empty = with_control M q (λ c. record c { due = c.due || (c.registered && was_empty) })

-- EvtIoQueueState of queue q starts, and is due no more
abbrev pub notified : Control → ℕ → Control
notified M q = with_control M q (λ c. record c { due = false })

-- ---- the opening

-- the control of a queue at the opening: Started, and not registered for notification
abbrev pub opening_mode : Option QueueInfo → QueueControl
opening_mode None = no_control
opening_mode (Some q) = record { device = q.device; mode = Started; registered = false; due = false }

-- all queues at the opening; no device is closed
abbrev pub opening_control : Plan → Control
opening_control plan = record { controls = map (λ q. opening_mode (queue_of plan q)) (declared_ids plan); closed = [] }
