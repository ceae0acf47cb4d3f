-- At which device a request counts, what a device is at the opening, and the lists of held requests.
use Rattle.std.specs.Prelude.{if◌then◌else◌, ◌≡◌, ◌≢◌, ℕ, ◌==◌, Bool, false, ◌&&◌, not, min, List, [], Option, Some, None}
use Rattle.wdf_base.specs.declared.ids.ObjectId.{ObjectId}
use Rattle.wdf_base.specs.declared.plan.Plan.{Plan}
use Rattle.wdf_model.specs.declared.entries.DevicePower.{DevicePower}
use Rattle.wdf_model.specs.declared.entries.QueuePower.{QueuePower}
use Rattle.wdf_model.specs.declared.entries.Holding.{Holding}
use Rattle.wdf_model.specs.declared.room.TheConstants.{OBJECTS}
use Rattle.wdf_model.specs.Tables.{entry}
use Rattle.wdf_model.specs.Plans.{device_of}
use Rattle.wdf_model.specs.parts.Power.{Power, is_held, no_queue_power, opening_device_power, opening_power}
use Rattle.wdf_ilist.specs.Family.{is_on, list_at}

-- the device of the queue that a request is held from
abbrev pub device_at : List QueuePower → Holding → ObjectId
device_at queues h = (entry no_queue_power queues h.queue.0).device

-- the device at which a request is held and isn't acknowledged, if there is one
abbrev pub unsettled_at : List QueuePower → Holding → Option ObjectId
unsettled_at queues h = if is_held h && not h.acknowledged then Some (device_at queues h) else None

-- the device at which a resume is due for a request, if there is one
abbrev pub due_at : List QueuePower → Holding → Option ObjectId
due_at queues h = if is_held h && h.resume_due then Some (device_at queues h) else None

-- the id 0 where a resume is due for a request
abbrev pub resume_of : Holding → Option ObjectId
resume_of h = if h.resume_due then Some (record { 0 = 0 }) else None

-- the power of an id at the opening
abbrev pub opening_device_at : Plan → ℕ → DevicePower
opening_device_at plan d = opening_device_power (device_of plan d)

-- Nothing is held, from any queue of the plan.
abbrev pub opening_holdings : Plan → Power
opening_holdings plan = record (opening_power plan) { devices = [] }

-- ---- the lists of the requests that are held, by device

-- the list of a device; that of all ids that no device can have is one
abbrev pub device_list : ℕ → ℕ
device_list d = min d OBJECTS

-- the list that a request is on, none where it isn't held
abbrev pub held_list : List QueuePower → Holding → Option ℕ
held_list queues h = if is_held h then Some (device_list (device_at queues h).0) else None

-- whether there is a list, and it is this one
abbrev pub is_list : ℕ → Option ℕ → Bool
is_list l None = false
is_list l (Some other) = other == l

-- A request is on this list, or on none, and the others are where they were.
pub record IsMoved (before after : List (List ℕ)) (r : ℕ) (list : Option ℕ) : Type 0 where
  pub here : (l : ℕ) → is_on r (list_at after l) ≡ is_list l list
  pub others : (k l : ℕ) → k ≢ r → is_on k (list_at after l) ≡ is_on k (list_at before l)
