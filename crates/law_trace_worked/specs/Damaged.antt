-- Lists of events made by hand, each near a law.
use Rattle.std.specs.Prelude.{List, [], ◌∷◌, Some, None}
use Rattle.wdf_base.specs.declared.event.Post.TheVariants as post
use Rattle.wdf_base.specs.declared.event.Stage.TheVariants as stage
use Rattle.wdf_base.specs.declared.event.Event.{Event}
use Rattle.wdf_base.specs.declared.event.Event.TheVariants as event
use Rattle.wdf_base.specs.declared.call.Arg.TheVariants.{Val}
use Rattle.wdf_base.specs.declared.call.CallKind.TheVariants as call
use Rattle.wdf_base.specs.declared.call.Callback.TheVariants as callback
use Rattle.wdf_base.specs.declared.value.Status.TheVariants as status
use Rattle.wdf_base.specs.declared.value.Value.TheVariants.{Num, Obj, Stat}
use Rattle.law_machine_worked.specs.Writing.{h, p, f, c}

-- A request is completed twice.
abbrev pub completed_again : List Event
completed_again = event.Posted 1 (post.Read (h 2 2) 16) (Some (h 4 1))
    ∷ event.Start (p 0) callback.EvtIoRead (h 3 3) (Some (h 4 1))
    ∷ event.Did (p 0) (c call.WdfRequestComplete 2 (Val (Obj (h 4 1))) (Val (Stat status.Success)) (Val (Num 0))) (Stat status.Success)
    ∷ event.Did (p 0) (c call.WdfRequestComplete 2 (Val (Obj (h 4 1))) (Val (Stat status.Success)) (Val (Num 0))) (Stat status.Success)
    ∷ []

-- A request is completed that hasn't arrived.
abbrev pub completed_before_arrival : List Event
completed_before_arrival = event.Did (p 0) (c call.WdfRequestComplete 2 (Val (Obj (h 4 1))) (Val (Stat status.Success)) (Val (Num 0))) (Stat status.Success)
    ∷ event.Posted 1 (post.Read (h 2 2) 16) (Some (h 4 1))
    ∷ []

-- A device ends before a request that arrived for it.
abbrev pub device_ends_before_request : List Event
device_ends_before_request = event.Posted 1 (post.Read (h 2 2) 16) (Some (h 4 1))
    ∷ event.Cleanup (h 2 2)
    ∷ event.Destroy (h 2 2)
    ∷ []

-- Two callbacks under the lock of one device, of two queues, run at once.
abbrev pub two_under_a_lock : List Event
two_under_a_lock = event.Start (p 0) callback.EvtIoRead (h 3 3) (Some (h 5 1))
    ∷ event.Start (p 1) callback.EvtIoWrite (h 4 4) (Some (h 6 1))
    ∷ []

-- The second begins after the first has ended.
abbrev pub one_after_the_other : List Event
one_after_the_other = event.Start (p 0) callback.EvtIoRead (h 3 3) (Some (h 5 1))
    ∷ event.End (p 0) callback.EvtIoRead (h 3 3) (Stat status.Success)
    ∷ event.Start (p 1) callback.EvtIoWrite (h 4 4) (Some (h 6 1))
    ∷ []

-- The first is parked, and hasn't ended.
abbrev pub parked_under_a_lock : List Event
parked_under_a_lock = event.Start (p 0) callback.EvtIoRead (h 3 3) (Some (h 5 1))
    ∷ event.Park (p 0) (f 1)
    ∷ event.Start (p 1) callback.EvtIoWrite (h 4 4) (Some (h 6 1))
    ∷ []

-- The first is parked, goes on on another processor and ends there.
abbrev pub ended_elsewhere : List Event
ended_elsewhere = event.Start (p 0) callback.EvtIoRead (h 3 3) (Some (h 5 1))
    ∷ event.Park (p 0) (f 1)
    ∷ event.Unpark (p 1) (f 1)
    ∷ event.End (p 1) callback.EvtIoRead (h 3 3) (Stat status.Success)
    ∷ event.Start (p 1) callback.EvtIoWrite (h 4 4) (Some (h 6 1))
    ∷ []

-- A handler begins on a queue after the queue's cleanup.
abbrev pub begun_after_cleanup : List Event
begun_after_cleanup = event.Posted 1 (post.Read (h 2 2) 16) (Some (h 4 1))
    ∷ event.Cleanup (h 3 3)
    ∷ event.Start (p 0) callback.EvtIoRead (h 3 3) (Some (h 4 1))
    ∷ []

-- A handler begins on a queue after the cleanup of its device.
abbrev pub begun_below_cleanup : List Event
begun_below_cleanup = event.Posted 1 (post.Read (h 2 2) 16) (Some (h 4 1))
    ∷ event.Cleanup (h 2 2)
    ∷ event.Start (p 0) callback.EvtIoRead (h 3 3) (Some (h 4 1))
    ∷ []

-- A service routine begins on an interrupt that isn't enabled.
abbrev pub isr_before_enabled : List Event
isr_before_enabled = event.Start (p 0) callback.EvtInterruptIsr (h 3 6) None
    ∷ []

-- A service routine begins after the interrupt was disabled.
abbrev pub isr_after_disabled : List Event
isr_after_disabled = event.Stage (h 2 3) stage.Enabled (Some (h 3 6))
    ∷ event.Stage (h 2 3) stage.Disabled (Some (h 3 6))
    ∷ event.Start (p 0) callback.EvtInterruptIsr (h 3 6) None
    ∷ []

-- The interrupt's DPC may still begin then.
abbrev pub dpc_after_disabled : List Event
dpc_after_disabled = event.Stage (h 2 3) stage.Enabled (Some (h 3 6))
    ∷ event.Stage (h 2 3) stage.Disabled (Some (h 3 6))
    ∷ event.Start (p 0) callback.EvtInterruptDpc (h 3 6) None
    ∷ []

-- A service routine begins while another one of the interrupt runs.
abbrev pub isr_in_isr : List Event
isr_in_isr = event.Stage (h 2 3) stage.Enabled (Some (h 3 6))
    ∷ event.Start (p 0) callback.EvtInterruptIsr (h 3 6) None
    ∷ event.Start (p 1) callback.EvtInterruptIsr (h 3 6) None
    ∷ []

-- A power-managed queue presents after its device's queues went down.
abbrev pub presented_without_power : List Event
presented_without_power = event.Posted 1 (post.Read (h 2 2) 16) (Some (h 4 1))
    ∷ event.Stage (h 2 2) stage.QueuesDown None
    ∷ event.Start (p 0) callback.EvtIoRead (h 3 3) (Some (h 4 1))
    ∷ []

-- A power-managed queue presents after its device's EvtDeviceD0Exit began.
abbrev pub presented_after_exit : List Event
presented_after_exit = event.Posted 1 (post.Read (h 2 2) 16) (Some (h 4 1))
    ∷ event.Start (p 0) callback.EvtDeviceD0Exit (h 2 2) None
    ∷ event.Start (p 0) callback.EvtIoRead (h 3 3) (Some (h 4 1))
    ∷ []

-- It presents once they are up again.
abbrev pub presented_with_power : List Event
presented_with_power = event.Posted 1 (post.Read (h 2 2) 16) (Some (h 4 1))
    ∷ event.Stage (h 2 2) stage.QueuesDown None
    ∷ event.Stage (h 2 2) stage.QueuesUp None
    ∷ event.Start (p 0) callback.EvtIoRead (h 3 3) (Some (h 4 1))
    ∷ []

-- A device is settled while the driver holds a request of a power-managed queue.
abbrev pub settled_while_held : List Event
settled_while_held = event.Posted 1 (post.Read (h 2 2) 16) (Some (h 4 1))
    ∷ event.Start (p 0) callback.EvtIoRead (h 3 3) (Some (h 4 1))
    ∷ event.Stage (h 2 2) stage.QueuesDown None
    ∷ event.Stage (h 2 2) stage.Settled None
    ∷ []

-- It is settled after the request was acknowledged.
abbrev pub settled_after_acknowledgement : List Event
settled_after_acknowledgement = event.Posted 1 (post.Read (h 2 2) 16) (Some (h 4 1))
    ∷ event.Start (p 0) callback.EvtIoRead (h 3 3) (Some (h 4 1))
    ∷ event.Stage (h 2 2) stage.QueuesDown None
    ∷ event.Did (p 0) (c call.WdfRequestStopAcknowledge 2 (Val (Obj (h 4 1))) (Val (Num 0)) (Val (Num 0))) (Stat status.Success)
    ∷ event.Stage (h 2 2) stage.Settled None
    ∷ []

-- The acknowledgement came before the queues went down.
abbrev pub acknowledged_too_early : List Event
acknowledged_too_early = event.Posted 1 (post.Read (h 2 2) 16) (Some (h 4 1))
    ∷ event.Start (p 0) callback.EvtIoRead (h 3 3) (Some (h 4 1))
    ∷ event.Did (p 0) (c call.WdfRequestStopAcknowledge 2 (Val (Obj (h 4 1))) (Val (Num 0)) (Val (Num 0))) (Stat status.Success)
    ∷ event.Stage (h 2 2) stage.QueuesDown None
    ∷ event.Stage (h 2 2) stage.Settled None
    ∷ []

-- A cancel callback begins for a request that nobody cancelled.
abbrev pub cancelled_without_cancel : List Event
cancelled_without_cancel = event.Posted 1 (post.Read (h 2 2) 16) (Some (h 4 1))
    ∷ event.Start (p 0) callback.EvtIoRead (h 3 3) (Some (h 4 1))
    ∷ event.Did (p 0) (c call.WdfRequestMarkCancelableEx 1 (Val (Obj (h 4 1))) (Val (Num 0)) (Val (Num 0))) (Stat status.Success)
    ∷ event.Start (p 0) callback.EvtRequestCancel (h 3 3) (Some (h 4 1))
    ∷ []

-- A cancel callback begins for a request that was unmarked.
abbrev pub cancelled_after_unmark : List Event
cancelled_after_unmark = event.Posted 1 (post.Read (h 2 2) 16) (Some (h 4 1))
    ∷ event.Start (p 0) callback.EvtIoRead (h 3 3) (Some (h 4 1))
    ∷ event.Did (p 0) (c call.WdfRequestMarkCancelableEx 1 (Val (Obj (h 4 1))) (Val (Num 0)) (Val (Num 0))) (Stat status.Success)
    ∷ event.Did (p 0) (c call.WdfRequestUnmarkCancelable 1 (Val (Obj (h 4 1))) (Val (Num 0)) (Val (Num 0))) (Stat status.Success)
    ∷ event.Posted 1 (post.Cancel 1) (Some (h 4 1))
    ∷ event.Start (p 0) callback.EvtRequestCancel (h 3 3) (Some (h 4 1))
    ∷ []

-- The second request of a queue is presented before the first.
abbrev pub presented_out_of_turn : List Event
presented_out_of_turn = event.Posted 1 (post.Read (h 2 2) 16) (Some (h 4 1))
    ∷ event.Posted 1 (post.Read (h 2 2) 16) (Some (h 5 1))
    ∷ event.Start (p 0) callback.EvtIoRead (h 3 3) (Some (h 5 1))
    ∷ event.Start (p 0) callback.EvtIoRead (h 3 3) (Some (h 4 1))
    ∷ []

-- A requeued request is presented before one that came after it.
abbrev pub requeued_first : List Event
requeued_first = event.Posted 1 (post.Read (h 2 2) 16) (Some (h 4 1))
    ∷ event.Posted 1 (post.Read (h 2 2) 16) (Some (h 5 1))
    ∷ event.Start (p 0) callback.EvtIoRead (h 3 3) (Some (h 4 1))
    ∷ event.Did (p 0) (c call.WdfRequestRequeue 1 (Val (Obj (h 4 1))) (Val (Num 0)) (Val (Num 0))) (Stat status.Success)
    ∷ event.Start (p 0) callback.EvtIoRead (h 3 3) (Some (h 4 1))
    ∷ event.Start (p 0) callback.EvtIoRead (h 3 3) (Some (h 5 1))
    ∷ []

-- A request at the tail is presented before a requeued one.
abbrev pub requeued_last : List Event
requeued_last = event.Posted 1 (post.Read (h 2 2) 16) (Some (h 4 1))
    ∷ event.Posted 1 (post.Read (h 2 2) 16) (Some (h 5 1))
    ∷ event.Start (p 0) callback.EvtIoRead (h 3 3) (Some (h 4 1))
    ∷ event.Did (p 0) (c call.WdfRequestRequeue 1 (Val (Obj (h 4 1))) (Val (Num 0)) (Val (Num 0))) (Stat status.Success)
    ∷ event.Start (p 0) callback.EvtIoRead (h 3 3) (Some (h 5 1))
    ∷ event.Start (p 0) callback.EvtIoRead (h 3 3) (Some (h 4 1))
    ∷ []

-- An object ends before its cleanup.
abbrev pub ended_before_cleanup : List Event
ended_before_cleanup = event.Posted 1 (post.Read (h 2 2) 16) (Some (h 4 1))
    ∷ event.Start (p 0) callback.EvtIoRead (h 3 3) (Some (h 4 1))
    ∷ event.Did (p 0) (c call.WdfRequestComplete 2 (Val (Obj (h 4 1))) (Val (Stat status.Success)) (Val (Num 0))) (Stat status.Success)
    ∷ event.End (p 0) callback.EvtIoRead (h 3 3) (Stat status.Success)
    ∷ event.Destroy (h 4 1)
    ∷ []

-- An object ends while the driver has a reference to it.
abbrev pub ended_with_reference : List Event
ended_with_reference = event.Posted 1 (post.Read (h 2 2) 16) (Some (h 4 1))
    ∷ event.Start (p 0) callback.EvtIoRead (h 3 3) (Some (h 4 1))
    ∷ event.Did (p 0) (c call.WdfObjectReference 1 (Val (Obj (h 4 1))) (Val (Num 0)) (Val (Num 0))) (Stat status.Success)
    ∷ event.Did (p 0) (c call.WdfRequestComplete 2 (Val (Obj (h 4 1))) (Val (Stat status.Success)) (Val (Num 0))) (Stat status.Success)
    ∷ event.Cleanup (h 4 1)
    ∷ event.Destroy (h 4 1)
    ∷ []

-- A queue's device ends before the queue.
abbrev pub ended_before_child : List Event
ended_before_child = event.Cleanup (h 3 3)
    ∷ event.Cleanup (h 2 2)
    ∷ event.Destroy (h 2 2)
    ∷ []

-- It ends after the queue.
abbrev pub ended_after_child : List Event
ended_after_child = event.Cleanup (h 3 3)
    ∷ event.Cleanup (h 2 2)
    ∷ event.Destroy (h 3 3)
    ∷ event.Destroy (h 2 2)
    ∷ []

-- An event breaks two laws: the one with the lesser number is told.
abbrev pub two_laws_at_one_place : List Event
two_laws_at_one_place = event.Posted 1 (post.Read (h 2 2) 16) (Some (h 4 1))
    ∷ event.Posted 1 (post.Read (h 2 2) 16) (Some (h 5 1))
    ∷ event.Stage (h 2 2) stage.QueuesDown None
    ∷ event.Start (p 0) callback.EvtIoRead (h 3 3) (Some (h 5 1))
    ∷ []
