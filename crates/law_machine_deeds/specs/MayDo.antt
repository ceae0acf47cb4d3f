-- Which events do which deeds: one row a deed.
use Rattle.std.specs.Prelude.{Bool, true, false, ◌==◌, ◌||◌}
use Rattle.wdf_base.specs.declared.call.CallKind.{CallKind}
use Rattle.wdf_base.specs.declared.call.CallKind.TheVariants as call
use Rattle.wdf_base.specs.declared.event.Event.{Event}
use Rattle.wdf_base.specs.declared.event.Event.TheVariants as event
use Rattle.wdf_base.specs.declared.event.Post.{Post}
use Rattle.wdf_base.specs.declared.event.Post.TheVariants as post
use Rattle.wdf_base.specs.declared.event.Stage.{Stage}
use Rattle.wdf_base.specs.declared.event.Stage.TheVariants as stage
use Rattle.wdf_base.specs.declared.rank.Rank.{Rank}
use Rattle.wdf_base.specs.declared.rank.Rank.TheVariants as rank
use Rattle.wdf_base.specs.Callbacks.{rank_number, row_of}
use Rattle.wdf_base.specs.Same.{same_call_kind, same_stage}
use Rattle.wdf_base.specs.Calls.{is_acquire, is_release}
use Rattle.wdf_base.specs.Posts.{is_request}
use Rattle.wdf_model.specs.declared.deed.Deed.{Deed}
use Rattle.wdf_model.specs.declared.deed.Deed.TheVariants as deed
use Rattle.law_machine_base.specs.Agreement.{is_sequence}

-- ---- kinds of calls

abbrev pub makes_objects : CallKind → Bool
makes_objects call.WdfObjectCreate = true
makes_objects call.WdfSpinLockCreate = true
makes_objects call.WdfWaitLockCreate = true
makes_objects call.WdfRequestCreate = true
makes_objects call.WdfDpcCreate = true
makes_objects call.WdfTimerCreate = true
makes_objects call.WdfWorkItemCreate = true
makes_objects _ = false

-- the driver gives a request back to a queue
abbrev pub gives_back : CallKind → Bool
gives_back call.WdfRequestRequeue = true
gives_back call.WdfRequestForwardToIoQueue = true
gives_back call.WdfRequestStopAcknowledge = true
gives_back _ = false

-- at its head
abbrev pub gives_to_head : CallKind → Bool
gives_to_head call.WdfRequestRequeue = true
gives_to_head call.WdfRequestStopAcknowledge = true
gives_to_head _ = false

abbrev pub sets_modes : CallKind → Bool
sets_modes call.WdfIoQueueStart = true
sets_modes call.WdfIoQueueStop = true
sets_modes call.WdfIoQueueDrain = true
sets_modes call.WdfIoQueueStopSynchronously = true
sets_modes call.WdfIoQueueDrainSynchronously = true
sets_modes _ = false

abbrev pub purges : CallKind → Bool
purges call.WdfIoQueuePurge = true
purges call.WdfIoQueuePurgeSynchronously = true
purges _ = false

abbrev pub queues_dpcs : CallKind → Bool
queues_dpcs call.WdfInterruptQueueDpcForIsr = true
queues_dpcs call.WdfDpcEnqueue = true
queues_dpcs _ = false

-- ---- kinds of events

-- the first part of such a call is done
abbrev pub first_part : (CallKind → Bool) → Event → Bool
first_part p (event.Did cpu c v) = p c.kind
first_part p (event.Waiting cpu c) = p c.kind
first_part p _ = false

-- the second part of such a call is done
abbrev pub second_part : (CallKind → Bool) → Event → Bool
second_part p (event.Did cpu c v) = p c.kind
second_part p (event.Woke cpu c v) = p c.kind
second_part p _ = false

abbrev pub calls : CallKind → Event → Bool
calls k e = first_part (λ c. same_call_kind c k) e

-- a frame is at its next statement, or waits
abbrev pub goes_on : Event → Bool
goes_on (event.Local cpu line) = true
goes_on (event.Log cpu v) = true
goes_on (event.Spend cpu n) = true
goes_on (event.Register cpu a k v) = true
goes_on (event.Did cpu c v) = true
goes_on (event.Waiting cpu c) = true
goes_on (event.Woke cpu c v) = true
goes_on _ = false

abbrev pub is_start : Event → Bool
is_start (event.Start cpu c o r) = true
is_start _ = false

-- a callback of this rank starts
abbrev pub starts : Rank → Event → Bool
starts k (event.Start cpu c o r) = rank_number (row_of c).rank == rank_number k
starts k _ = false

-- a callback starts that is a step of a sequence
abbrev pub starts_step : Event → Bool
starts_step (event.Start cpu c o r) = is_sequence (row_of c).rank
starts_step _ = false

abbrev pub is_end : Event → Bool
is_end (event.End cpu c o v) = true
is_end _ = false

-- a callback ends that is a step of a sequence
abbrev pub ends_step : Event → Bool
ends_step (event.End cpu c o v) = is_sequence (row_of c).rank
ends_step _ = false

abbrev pub is_park : Event → Bool
is_park (event.Park cpu f) = true
is_park _ = false

abbrev pub is_unpark : Event → Bool
is_unpark (event.Unpark cpu f) = true
is_unpark _ = false

abbrev pub is_stage : Event → Bool
is_stage (event.Stage d s i) = true
is_stage _ = false

-- a device passes this stage
abbrev pub passes : Stage → Event → Bool
passes s (event.Stage d t i) = same_stage t s
passes s _ = false

abbrev pub is_completion : Event → Bool
is_completion (event.Complete r s) = true
is_completion _ = false

abbrev pub is_cleanup : Event → Bool
is_cleanup (event.Cleanup o) = true
is_cleanup _ = false

abbrev pub is_destruction : Event → Bool
is_destruction (event.Destroy o) = true
is_destruction _ = false

abbrev pub is_tick : Event → Bool
is_tick (event.Tick time) = true
is_tick _ = false

abbrev pub is_cancel : Post → Bool
is_cancel (post.Cancel k) = true
is_cancel _ = false

abbrev pub is_ask : Post → Bool
is_ask (post.Ask a device) = true
is_ask _ = false

abbrev pub is_done : Post → Bool
is_done (post.Done request s) = true
is_done _ = false

-- an agent has such a post
abbrev pub posts : (Post → Bool) → Event → Bool
posts p (event.Posted agent post_ answer) = p post_
posts p _ = false

-- a request is completed, by the driver's call or by the framework
abbrev pub completing : Event → Bool
completing e = is_completion e || calls call.WdfRequestComplete e

-- a lock is given back, by a call or at a callback's end
abbrev pub releasing : Event → Bool
releasing e = is_end e || first_part is_release e

-- ---- the table: which events may do a deed

abbrev pub may_do : Event → Deed → Bool
may_do e (deed.Create kind class parent) = first_part makes_objects e
may_do e (deed.MakeRequest class parent) = first_part makes_objects e
may_do e (deed.Arrive device info place) = posts is_request e
may_do e (deed.CountArrival agent) = posts is_request e
may_do e (deed.AskDeletion o) = passes stage.Removed e || calls call.WdfObjectDelete e
may_do e (deed.Refer o) = calls call.WdfObjectReference e
may_do e (deed.Unrefer o) = calls call.WdfObjectDereference e
may_do e (deed.WriteCell o cell v) = calls call.SetContext e
may_do e (deed.Note o c) = starts rank.Cleanup e || starts rank.Destroy e
may_do e (deed.CleanUp o) = is_cleanup e
may_do e (deed.EndLife o) = is_destruction e
may_do e (deed.PushFrame cpu f frame level) = is_start e
may_do e (deed.GoOn f frame) = goes_on e
may_do e (deed.Raise f level) = first_part is_acquire e
may_do e (deed.Lower f level) = first_part is_release e
may_do e (deed.PopFrame cpu) = is_end e
may_do e (deed.ParkFrame cpu) = is_park e
may_do e (deed.UnparkFrame cpu f) = is_unpark e
may_do e (deed.TakeLock l f by_call) = is_start e || second_part is_acquire e
may_do e (deed.ReleaseLock l) = releasing e
may_do e (deed.Present q r) = starts rank.Handler e || calls call.WdfIoQueueRetrieveNextRequest e
may_do e (deed.Receive q r) = starts rank.CanceledOnQueue e
may_do e (deed.Requeue r q) = first_part gives_to_head e
may_do e (deed.Forward r q) = calls call.WdfRequestForwardToIoQueue e
may_do e (deed.GiveBack r q) = first_part gives_back e
may_do e (deed.Withdraw q r) = posts is_cancel e
may_do e (deed.MarkRequest r) = calls call.WdfRequestMarkCancelableEx e
may_do e (deed.UnmarkRequest r) = calls call.WdfRequestUnmarkCancelable e
may_do e (deed.CancelRequest r) = posts is_cancel e
may_do e (deed.TakeCancel r) = starts rank.Cancel e
may_do e (deed.SendRequest r t forget) = calls call.WdfRequestSend e
may_do e (deed.FinishSending r s) = posts is_done e
may_do e (deed.ComeBack r) = starts rank.Completion e
may_do e (deed.CompleteRequest r) = completing e
may_do e (deed.SetMode q mode) = first_part sets_modes e
may_do e (deed.PurgeQueue q) = first_part purges e
may_do e (deed.CloseReturning d) = passes stage.QueuesDown e
may_do e (deed.CloseDevice d) = passes stage.Closed e
may_do e (deed.RegisterQueue q on) = calls call.WdfIoQueueReadyNotify e
may_do e (deed.NotifyQueue q) = starts rank.QueueState e
may_do e (deed.AdvancePower d s) = is_stage e
may_do e (deed.Acknowledge r) = calls call.WdfRequestStopAcknowledge e
may_do e (deed.AskStop r) = starts rank.Stop e
may_do e (deed.Resume r) = starts rank.Resume e
may_do e (deed.AskDevice d a) = posts is_ask e
may_do e (deed.TakeStep d) = is_stage e || starts_step e
may_do e (deed.EndStep d s v) = ends_step e
may_do e (deed.EnableInterrupt i) = passes stage.Enabled e
may_do e (deed.DisableInterrupt i) = passes stage.Disabled e
may_do e (deed.EnqueueDpc cpu o) = first_part queues_dpcs e
may_do e (deed.CancelDpc o) = calls call.WdfDpcCancel e
may_do e (deed.TakeDpc cpu) = starts rank.Deferred e
may_do e (deed.EnqueueWork o) = calls call.WdfWorkItemEnqueue e
may_do e (deed.CancelWork o) = starts rank.Work e
may_do e (deed.StartTimer o n) = calls call.WdfTimerStart e
may_do e (deed.StopTimer o) = calls call.WdfTimerStop e
may_do e (deed.FireTimer o period) = starts rank.Timed e
may_do e (deed.StopTarget t) = calls call.WdfIoTargetStop e
may_do e (deed.StartTarget t) = calls call.WdfIoTargetStart e
may_do e deed.PassTick = is_tick e
