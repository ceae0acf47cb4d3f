-- Whether an event shows a sign.
use Rattle.std.specs.Prelude.{ℕ, Bool, true, false, ◌==◌, ◌&&◌, ◌||◌, Option, Some, None}
use Rattle.wdf_base.specs.declared.event.Event.{Event}
use Rattle.wdf_base.specs.declared.event.Stage.TheVariants as stage
use Rattle.wdf_base.specs.declared.call.CallKind.TheVariants as call
use Rattle.wdf_base.specs.declared.call.Callback.TheVariants as callback
use Rattle.wdf_laws.specs.declared.sign.Sign.{Sign}
use Rattle.wdf_laws.specs.declared.sign.Sign.TheVariants as sign
use Rattle.wdf_laws.specs.declared.sign.Taking.{Taking}
use Rattle.wdf_laws.specs.Events.{is_id, called, called_well, begun_on, begun_for, ended_on, passed, passed_for, arrived, cancel_posted, completed, taken, given_up, headed, tailed, acknowledged, mark_undone, cleaned, destroyed}

-- a taking is of this request from this queue
abbrev pub is_taking_of : ℕ → ℕ → Option Taking → Bool
is_taking_of r q None = false
is_taking_of r q (Some t) = (t.request == r) && (t.queue == q)

-- the signs of interrupts, devices and objects
abbrev pub shows_of_object : Sign → Event → Bool
shows_of_object (sign.Enabled i) e = is_id i (passed_for stage.Enabled e)
shows_of_object (sign.Disabled i) e = is_id i (passed_for stage.Disabled e)
shows_of_object (sign.QueuesUp d) e = is_id d (passed stage.QueuesUp e)
shows_of_object (sign.QueuesDown d) e = is_id d (passed stage.QueuesDown e)
shows_of_object (sign.Entered d) e = is_id d (ended_on callback.EvtDeviceD0Entry true e)
shows_of_object (sign.NotEntered d) e = is_id d (ended_on callback.EvtDeviceD0Entry false e) || is_id d (begun_on callback.EvtDeviceD0Exit e)
shows_of_object (sign.ExitBegins d) e = is_id d (begun_on callback.EvtDeviceD0Exit e)
shows_of_object (sign.Cleaned o) e = is_id o (cleaned e)
shows_of_object (sign.Destroyed o) e = is_id o (destroyed e)
shows_of_object (sign.Referenced o) e = is_id o (called call.WdfObjectReference e)
shows_of_object (sign.Dereferenced o) e = is_id o (called call.WdfObjectDereference e)
shows_of_object _ e = false

abbrev pub shows : Sign → Event → Bool
shows (sign.Arrival r) e = is_id r (arrived e)
shows (sign.Completion r) e = is_id r (completed e)
shows (sign.TakingFrom r q) e = is_taking_of r q (taken e)
shows (sign.GivingUp r) e = is_id r (given_up e)
shows (sign.AtHead r) e = is_id r (headed e)
shows (sign.Entry r) e = is_id r (headed e) || is_id r (tailed e)
shows (sign.Acknowledgement r) e = is_id r (acknowledged e)
shows (sign.CancelPosted r) e = is_id r (cancel_posted e)
shows (sign.CancelBegins r) e = is_id r (begun_for callback.EvtRequestCancel e)
shows (sign.Marked r) e = is_id r (called_well call.WdfRequestMarkCancelableEx e)
shows (sign.MarkUndone r) e = is_id r (mark_undone e)
shows s e = shows_of_object s e
