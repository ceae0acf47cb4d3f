-- The modes of queues, read off the events of a run alone; what waits in a queue that is Purged, and what a purge and the closing
-- of a device leave.
use Rattle.std.specs.Prelude.{if◌then◌else◌, ◌≡◌, ◌≢◌, ℕ, ◌==◌, Bool, true, false, ◌&&◌, List, [], fold, Option, Some, None, is_some}
use Rattle.std.specs.List.{list_any}
use Rattle.wdf_base.specs.declared.plan.Plan.{Plan}
use Rattle.wdf_base.specs.declared.call.Call.{Call}
use Rattle.wdf_base.specs.declared.call.CallKind.{CallKind}
use Rattle.wdf_base.specs.declared.call.CallKind.TheVariants as call
use Rattle.wdf_base.specs.declared.event.Event.{Event}
use Rattle.wdf_base.specs.declared.event.Event.TheVariants as event
use Rattle.wdf_base.specs.declared.event.Stage.TheVariants as stage
use Rattle.wdf_base.specs.declared.object.Place.TheVariants as place
use Rattle.wdf_base.specs.declared.value.Status.TheVariants as status
use Rattle.wdf_base.specs.Places.{is_queued_in}
use Rattle.wdf_base.specs.Same.{same_stage}
use Rattle.wdf_model.specs.declared.enums.Mode.{Mode}
use Rattle.wdf_model.specs.declared.enums.Mode.TheVariants.{Started, Stopped, Drained, Purged}
use Rattle.wdf_model.specs.Plans.{device_of_queue, is_queue_of, queue_of}
use Rattle.wdf_model.specs.parts.Control.{mode_of}
use Rattle.wdf_model.specs.parts.Requests.{is_cancelled, is_in, place_of, request_of}
use Rattle.wdf_model.specs.parts.Queues.{waiting_in}
use Rattle.wdf_model.specs.State.{State, object_in, withdrawn_place}
use Rattle.law_machine_deeds.specs.MayDo.{purges}

-- ---- what one event says

-- the mode that a control call gives its queue; other calls give none
abbrev pub mode_given : CallKind → Option Mode
-- KMDF: the queue accepts and delivers
mode_given call.WdfIoQueueStart = Some Started
-- KMDF: it accepts and doesn't deliver
mode_given call.WdfIoQueueStop = Some Stopped
mode_given call.WdfIoQueueStopSynchronously = Some Stopped
-- KMDF: it delivers and doesn't accept
mode_given call.WdfIoQueueDrain = Some Drained
mode_given call.WdfIoQueueDrainSynchronously = Some Drained
-- KMDF: it does neither
mode_given call.WdfIoQueuePurge = Some Purged
mode_given call.WdfIoQueuePurgeSynchronously = Some Purged
mode_given _ = None

-- a queue's mode after a call that gives a mode or none; `its_own` says whether the call is to that queue
abbrev pub or_before : Option Mode → Bool → Mode → Mode
or_before None its_own before = before
or_before (Some mode) its_own before = if its_own then mode else before

-- the mode of queue q after call c, by its mode before
abbrev pub mode_by_call : ℕ → Mode → Call → Mode
mode_by_call q before c = or_before (mode_given c.kind) (object_in c.a == q) before

-- the mode of queue q after event e, by its mode before and the calls alone: one row for each event that changes it
abbrev pub mode_by : ℕ → Mode → Event → Mode
-- KMDF: a control call is made, and answered
mode_by q before (event.Did cpu c answer) = mode_by_call q before c
-- KMDF: a control call is made, and waits; its queue has the mode from then on
mode_by q before (event.Waiting cpu c) = mode_by_call q before c
mode_by q before _ = before

-- own: event e closes device d, which passes its stage `closed`
abbrev pub closes : ℕ → Event → Bool
closes d (event.Stage device s interrupt) = same_stage s stage.Closed && device.id.0 == d
closes d _ = false

-- event e is a purge of queue q, which is answered or waits
abbrev pub is_purge_of : ℕ → Event → Bool
is_purge_of q (event.Did cpu c answer) = purges c.kind && object_in c.a == q
is_purge_of q (event.Waiting cpu c) = purges c.kind && object_in c.a == q
is_purge_of q _ = false

-- ---- what the events of a run say

-- the mode that the last control call to queue q gave it; Started where none came (KMDF)
unfoldable pub last_mode : ℕ → List Event → Mode
last_mode q events = fold (mode_by q) Started events

-- the mode of queue q of device d: Purged for good once the device is closed (own), until then by the last control call
abbrev pub mode_told : ℕ → ℕ → List Event → Mode
mode_told d q events = if list_any (closes d) events then Purged else last_mode q events

-- ---- states

-- Each queue of the plan has the mode that these events tell.
abbrev pub ModesAsTold : {A : Type 0} → Plan → List Event → State A → Type 0
ModesAsTold plan events S = (q : ℕ) → is_some (queue_of plan q) ≡ true → mode_of S.control q ≡ mode_told (device_of_queue plan q) q events

-- Nothing waits in a queue of the plan that is Purged.
abbrev pub PurgedAreEmpty : {A : Type 0} → Plan → State A → Type 0
PurgedAreEmpty plan S = (q : ℕ) → is_some (queue_of plan q) ≡ true → mode_of S.control q ≡ Purged → waiting_in S.queues q ≡ []

-- What a purge of queue q leaves, from the state before it to the state after it.
pub record PurgeLeaves {A : Type 0} (plan : Plan) (q : ℕ) (before after : State A) : Type 0 where
  -- nothing waits in the queue
  pub empty : waiting_in after.queues q ≡ []
  -- the other queues have the same requests in the same order
  pub elsewhere : (p : ℕ) → p ≢ q → waiting_in after.queues p ≡ waiting_in before.queues p
  -- each request that waited there is cancelled. It returns to the driver where the driver had it before and the queue
  -- gives it back, else it is to be completed with CANCELLED.
  pub cancelled : (r : ℕ) → is_queued_in q (place_of before.requests r) ≡ true → (is_cancelled after.requests r ≡ true) × (place_of after.requests r ≡ withdrawn_place plan before q r)
  -- every other request stays as it is, so also what the driver holds
  pub others : (r : ℕ) → is_queued_in q (place_of before.requests r) ≡ false → request_of after.requests r ≡ request_of before.requests r

-- What the closing of device d leaves of requests, from the state before it to the state after it.
pub record CloseLeaves {A : Type 0} (plan : Plan) (d : ℕ) (before after : State A) : Type 0 where
  -- each request that waited in a queue of the device, or was to return from one to the driver, is to be completed with CANCELLED
  pub cancelled : (r q : ℕ) → is_queue_of d (queue_of plan q) ≡ true → is_in q (place_of before.requests r) ≡ true → place_of after.requests r ≡ place.Closing status.Cancelled
  -- every other request stays as it is, so also what the driver holds
  pub others : (r : ℕ) → ((q : ℕ) → is_queue_of d (queue_of plan q) ≡ true → is_in q (place_of before.requests r) ≡ false) → request_of after.requests r ≡ request_of before.requests r
