-- The nine laws of a trace. Each is a test of an event by the events before it, and where it needs them by the plan and
-- the whole list of events, or by the frames after the events before it.
use Rattle.std.specs.Prelude.{if◌then◌else◌, ℕ, zero, suc, ◌+◌, Bool, true, false, ◌==◌, not, ◌&&◌, ◌||◌, List, length, take, drop, slice_get, Option, Some, None}
use Rattle.std.specs.List.{list_all, list_any}
use Rattle.wdf_base.specs.declared.plan.Plan.{Plan}
use Rattle.wdf_base.specs.declared.declared.DeviceInfo.{DeviceInfo}
use Rattle.wdf_base.specs.declared.declared.QueueInfo.{QueueInfo}
use Rattle.wdf_base.specs.declared.declared.InterruptInfo.{InterruptInfo}
use Rattle.wdf_base.specs.declared.object.LockRef.{LockRef}
use Rattle.wdf_base.specs.declared.rank.Rank.{Rank}
use Rattle.wdf_base.specs.declared.rank.Rank.TheVariants as rank
use Rattle.wdf_base.specs.declared.call.Callback.{Callback}
use Rattle.wdf_base.specs.declared.call.Callback.TheVariants as callback
use Rattle.wdf_base.specs.declared.event.Stage.TheVariants as stage
use Rattle.wdf_base.specs.declared.event.Event.{Event}
use Rattle.wdf_base.specs.declared.event.Event.TheVariants as event
use Rattle.wdf_base.specs.Callbacks.{row_of, takes_interrupt_lock}
use Rattle.wdf_base.specs.Same.{same_callback, same_lock}
use Rattle.wdf_model.specs.Plans.{declares, device_of, queue_of, interrupt_of}
use Rattle.wdf_laws.specs.declared.sign.Sign.TheVariants as sign
use Rattle.wdf_laws.specs.declared.sign.Taking.{Taking}
use Rattle.wdf_laws.specs.declared.sign.Told.{Told}
use Rattle.wdf_laws.specs.declared.sign.Begun.{Begun}
use Rattle.wdf_laws.specs.Events.{is_id, begun_on, begun_for, arrived, arrived_at, completed, presented, taken, told, destroyed, passed}
use Rattle.wdf_laws.specs.Words.{ever, times, stands, followed, stood_at}
use Rattle.wdf_laws.specs.Family.{parent_of, cleaned_above, most_above, scope_on}
use Rattle.wdf_laws.specs.Frames.{Frames, is_on}

-- ---- 1: a request is completed once, after it arrived; a device ends after its requests

-- a completion: the request arrived, and wasn't completed before
abbrev pub completes_once : List Event → Option ℕ → Bool
completes_once before None = true
completes_once before (Some r) = ever (sign.Arrival r) before && not (ever (sign.Completion r) before)

abbrev pub is_completed : List Event → Option ℕ → Bool
is_completed before None = true
is_completed before (Some r) = ever (sign.Completion r) before

-- a request that arrived for this device was completed
abbrev pub is_settled : List Event → ℕ → Event → Bool
is_settled before d e = not (is_id d (arrived_at e)) || is_completed before (arrived e)

-- the end of a device: each request that arrived for it was completed
abbrev pub ends_after_requests : List Event → Option ℕ → Bool
ends_after_requests before None = true
ends_after_requests before (Some d) = list_all (is_settled before d) before

abbrev pub law_1 : List Event → Event → Bool
law_1 before e = completes_once before (completed e) && ends_after_requests before (destroyed e)

-- ---- 2: callbacks under one scope lock come one after the other

abbrev pub needs : LockRef → Option LockRef → Bool
needs s None = false
needs s (Some l) = same_lock l s

abbrev pub is_under : Plan → List Event → LockRef → Begun → Bool
is_under plan all s b = needs s (scope_on plan all b.callback b.object)

-- no callback under this lock has begun and not ended
abbrev pub is_free_scope : Plan → List Event → Frames → Option LockRef → Bool
is_free_scope plan all F None = true
is_free_scope plan all F (Some s) = not (list_any (is_under plan all s) F.begun)

abbrev pub law_2 : Plan → List Event → Frames → Event → Bool
law_2 plan all F (event.Start cpu c object request) = is_free_scope plan all F (scope_on plan all c object.id.0)
law_2 plan all F _ = true

-- ---- 3: after the cleanup of an object, nothing begins on it or below it but its destroy callback

abbrev pub law_3 : Plan → List Event → List Event → Event → Bool
law_3 plan all before (event.Start cpu c object request) = same_callback c callback.EvtDestroyCallback || not (cleaned_above plan all before (most_above plan all) object.id.0)
law_3 plan all before _ = true

-- ---- 4: the callbacks of an interrupt

-- a device without EvtDeviceD0Entry is entered; another one by the last event that says so
abbrev pub is_entered : Plan → List Event → ℕ → Bool
is_entered plan before d = not (declares plan callback.EvtDeviceD0Entry d) || stands (sign.Entered d) (sign.NotEntered d) before

-- the interrupt was enabled, its device was entered then, and its EvtDeviceD0Exit hasn't begun since
abbrev pub is_enabled_in_power : Plan → List Event → ℕ → ℕ → Bool
is_enabled_in_power plan before i d =
    stands (sign.Enabled i) (sign.ExitBegins d) before
    && (not (declares plan callback.EvtDeviceD0Entry d) || stood_at (sign.Enabled i) (sign.Entered d) (sign.NotEntered d) before)

abbrev pub is_with_interrupt : ℕ → Begun → Bool
is_with_interrupt i b = takes_interrupt_lock b.callback && (b.object == i)

-- alone with the interrupt's lock, and on an empty processor where the interrupt is passive
abbrev pub is_alone : Frames → ℕ → ℕ → ℕ → Bool
is_alone F level cpu i = not (list_any (is_with_interrupt i) F.begun) && (not (level == 0) || not (list_any (is_on cpu) F.stacks))

-- first row: what begins only on an enabled interrupt
abbrev pub enabled_row : Plan → List Event → Callback → ℕ → ℕ → Bool
enabled_row plan before callback.EvtInterruptIsr i d = is_enabled_in_power plan before i d && stands (sign.Enabled i) (sign.Disabled i) before
enabled_row plan before callback.EvtInterruptDpc i d = is_enabled_in_power plan before i d
enabled_row plan before callback.EvtInterruptDisable i d = is_enabled_in_power plan before i d
enabled_row plan before _ i d = true

-- second row: an interrupt is enabled only on an entered device
abbrev pub enable_row : Plan → List Event → Callback → ℕ → Bool
enable_row plan before callback.EvtInterruptEnable d = is_entered plan before d
enable_row plan before _ d = true

-- third row: the callbacks with the interrupt's lock come one after the other
abbrev pub alone_row : Frames → Callback → ℕ → ℕ → ℕ → Bool
alone_row F c level cpu i = not (takes_interrupt_lock c) || is_alone F level cpu i

abbrev pub interrupt_rows : Plan → List Event → Frames → Callback → ℕ → ℕ → Option InterruptInfo → Bool
interrupt_rows plan before F c cpu i None = true
interrupt_rows plan before F c cpu i (Some x) = enabled_row plan before c i x.device.0 && enable_row plan before c x.device.0 && alone_row F c x.level.0 cpu i

abbrev pub law_4 : Plan → List Event → Frames → Event → Bool
law_4 plan before F (event.Start cpu c object request) = interrupt_rows plan before F c cpu.0 object.id.0 (interrupt_of plan object.id.0)
law_4 plan before F _ = true

-- ---- 5: a power-managed queue works only while its device has power

abbrev pub works_at_opening : Option DeviceInfo → Bool
works_at_opening None = false
works_at_opening (Some d) = d.working

-- the queues of a device have never gone up or down
abbrev pub is_untouched : List Event → ℕ → Bool
is_untouched before d = not (ever (sign.QueuesUp d) before) && not (ever (sign.QueuesDown d) before)

-- they are up from the opening on
abbrev pub is_up_from_opening : Plan → List Event → ℕ → Bool
is_up_from_opening plan before d = is_untouched before d && works_at_opening (device_of plan d) && not (ever (sign.ExitBegins d) before)

-- they went up last, the device was entered then, and its EvtDeviceD0Exit hasn't begun since
abbrev pub went_up : Plan → List Event → ℕ → Bool
went_up plan before d =
    stands (sign.QueuesUp d) (sign.QueuesDown d) before && stands (sign.QueuesUp d) (sign.ExitBegins d) before
    && (not (declares plan callback.EvtDeviceD0Entry d) || stood_at (sign.QueuesUp d) (sign.Entered d) (sign.NotEntered d) before)

abbrev pub has_power : Plan → List Event → Option QueueInfo → Bool
has_power plan before None = true
has_power plan before (Some q) = not q.powered || went_up plan before q.device.0 || is_up_from_opening plan before q.device.0

-- a callback of a queue that needs power, beside those that present
abbrev pub is_power_rank : Rank → Bool
is_power_rank rank.CanceledOnQueue = true
is_power_rank rank.Resume = true
is_power_rank rank.QueueState = true
is_power_rank _ = false

abbrev pub presented_with_power : Plan → List Event → Option Taking → Bool
presented_with_power plan before None = true
presented_with_power plan before (Some t) = has_power plan before (queue_of plan t.queue)

abbrev pub begun_with_power : Plan → List Event → Event → Bool
begun_with_power plan before (event.Start cpu c object request) = not (is_power_rank (row_of c).rank) || has_power plan before (queue_of plan object.id.0)
begun_with_power plan before _ = true

abbrev pub law_5 : Plan → List Event → Event → Bool
law_5 plan before e = presented_with_power plan before (presented e) && begun_with_power plan before e

-- ---- 6: a device loses power only after each held request was acknowledged

abbrev pub is_managed_of : ℕ → Option QueueInfo → Bool
is_managed_of d None = false
is_managed_of d (Some q) = q.powered && (q.device.0 == d)

-- a request that was taken from a power-managed queue of the device isn't held, or was acknowledged since the queues went down
abbrev pub is_acknowledged : Plan → List Event → ℕ → Option Taking → Bool
is_acknowledged plan before d None = true
is_acknowledged plan before d (Some t) =
    not (is_managed_of d (queue_of plan t.queue)) || not (stands (sign.TakingFrom t.request t.queue) (sign.GivingUp t.request) before)
    || followed (sign.QueuesDown d) (sign.Acknowledgement t.request) before

abbrev pub is_acknowledged_at : Plan → List Event → ℕ → Event → Bool
is_acknowledged_at plan before d e = is_acknowledged plan before d (taken e)

abbrev pub all_acknowledged : Plan → List Event → Option ℕ → Bool
all_acknowledged plan before None = true
all_acknowledged plan before (Some d) = list_all (is_acknowledged_at plan before d) before

abbrev pub law_6 : Plan → List Event → Event → Bool
law_6 plan before e = all_acknowledged plan before (passed stage.Settled e) && all_acknowledged plan before (begun_on callback.EvtDeviceD0Exit e)

-- ---- 7: a cancel callback comes once, for a request that is marked and whose cancel was posted

abbrev pub is_cancel_due : List Event → Option ℕ → Bool
is_cancel_due before None = true
is_cancel_due before (Some r) = ever (sign.CancelPosted r) before && stands (sign.Marked r) (sign.MarkUndone r) before && not (ever (sign.CancelBegins r) before)

abbrev pub law_7 : List Event → Event → Bool
law_7 before e = is_cancel_due before (begun_for callback.EvtRequestCancel e)

-- ---- 8: a queue presents from its head

-- before the earlier presentation, the last entry of a request was at the head
abbrev pub came_at_head : List Event → ℕ → Bool
came_at_head before r = stands (sign.AtHead r) (sign.Entry r) before

-- Before the earlier presentation both had entered. Both at the tail: the earlier one first. Both at the head: the
-- later one first. Else the head first.
abbrev pub is_in_order : List Event → ℕ → ℕ → Bool
is_in_order before r r2 =
    if came_at_head before r then not (came_at_head before r2) || followed (sign.Entry r2) (sign.Entry r) before
    else not (came_at_head before r2) && followed (sign.Entry r) (sign.Entry r2) before

-- the later one waited already when the earlier one was presented
abbrev pub waited : List Event → List Event → ℕ → ℕ → Bool
waited before between r r2 = ever (sign.Entry r) before && ever (sign.Entry r2) before && not (ever (sign.Entry r2) between)

-- an earlier presentation from the same queue was in its turn
abbrev pub is_in_turn : List Event → List Event → Taking → Option Taking → Bool
is_in_turn before between later None = true
is_in_turn before between later (Some t) = not (t.queue == later.queue) || not (waited before between t.request later.request) || is_in_order before t.request later.request

-- the presentation that is event k of those before
abbrev pub presented_in : Option Event → Option Taking
presented_in None = None
presented_in (Some e) = presented e

abbrev pub presented_at : List Event → ℕ → Option Taking
presented_at before k = presented_in (slice_get before k)

-- each of the first k events before, if it is a presentation from the same queue, was in its turn
abbrev pub all_in_turn : List Event → Taking → ℕ → Bool
all_in_turn before later zero = true
all_in_turn before later (suc k) = all_in_turn before later k && is_in_turn (take k before) (drop k before) later (presented_at before k)

abbrev pub is_presented_in_turn : List Event → Option Taking → Bool
is_presented_in_turn before None = true
is_presented_in_turn before (Some t) = all_in_turn before t (length before)

abbrev pub law_8 : List Event → Event → Bool
law_8 before e = is_presented_in_turn before (presented e)

-- ---- 9: an object ends once, after its cleanup, its children and its references

-- an object isn't a child of o, or has its end
abbrev pub is_ended_child : Plan → List Event → List Event → ℕ → ℕ → Bool
is_ended_child plan all before o c = not (parent_of plan all c == o) || ever (sign.Destroyed c) before

abbrev pub is_ended_told : Plan → List Event → List Event → ℕ → Option Told → Bool
is_ended_told plan all before o None = true
is_ended_told plan all before o (Some t) = is_ended_child plan all before o t.object

abbrev pub is_ended_at : Plan → List Event → List Event → ℕ → Event → Bool
is_ended_at plan all before o e = is_ended_told plan all before o (told plan e)

-- each of the first n declared objects that is a child of o has its end; they have the ids from 1
abbrev pub declared_ended : Plan → List Event → List Event → ℕ → ℕ → Bool
declared_ended plan all before o zero = true
declared_ended plan all before o (suc n) = declared_ended plan all before o n && is_ended_child plan all before o (n + 1)

abbrev pub ends_well : Plan → List Event → List Event → Option ℕ → Bool
ends_well plan all before None = true
ends_well plan all before (Some o) =
    ever (sign.Cleaned o) before && not (ever (sign.Destroyed o) before)
    && (declared_ended plan all before o (length plan.declared) && list_all (is_ended_at plan all before o) all)
    && (times (sign.Dereferenced o) before == times (sign.Referenced o) before)

abbrev pub law_9 : Plan → List Event → List Event → Event → Bool
law_9 plan all before e = ends_well plan all before (destroyed e)
