-- The words by which texts and traces name enums.
use Rattle.std.specs.Prelude.{List, ℕ, Option, find, codes}
use Rattle.std.specs.Str.{bytes_eq}
use Rattle.wdf_base.specs.declared.value.Status.{Status}
use Rattle.wdf_base.specs.declared.value.Status.TheVariants as status
use Rattle.wdf_base.specs.declared.call.Callback.{Callback}
use Rattle.wdf_base.specs.declared.call.Callback.TheVariants as callback
use Rattle.wdf_base.specs.declared.call.CallKind.{CallKind}
use Rattle.wdf_base.specs.declared.call.CallKind.TheVariants as call
use Rattle.wdf_base.specs.declared.event.Fault.{Fault}
use Rattle.wdf_base.specs.declared.event.Fault.TheVariants as fault
use Rattle.wdf_base.specs.declared.event.Stage.{Stage}
use Rattle.wdf_base.specs.declared.event.Stage.TheVariants as stage
use Rattle.wdf_base.specs.declared.event.Ask.{Ask}
use Rattle.wdf_base.specs.declared.event.Ask.TheVariants as ask
use Rattle.wdf_base.specs.declared.words.TheConstants.{STATUSES, CALLBACKS, CALL_KINDS, FAULTS, STAGES, ASKS}

-- the word of a status
abbrev pub status_word : Status → List ℕ
status_word status.Success = codes "SUCCESS"
status_word status.Cancelled = codes "CANCELLED"
status_word status.Unsuccessful = codes "UNSUCCESSFUL"
status_word status.InvalidDeviceRequest = codes "INVALID_DEVICE_REQUEST"
status_word status.InvalidDeviceState = codes "INVALID_DEVICE_STATE"
status_word status.NoMoreEntries = codes "NO_MORE_ENTRIES"
status_word status.WdfPaused = codes "WDF_PAUSED"
status_word status.WdfBusy = codes "WDF_BUSY"
status_word status.InsufficientResources = codes "INSUFFICIENT_RESOURCES"
status_word status.DeletePending = codes "DELETE_PENDING"

-- the status that has this word
abbrev pub status_of : List ℕ → Option Status
status_of word = find (λ x. bytes_eq (status_word x) word) STATUSES

-- the word of a callback
abbrev pub callback_word : Callback → List ℕ
callback_word callback.EvtInterruptIsr = codes "EvtInterruptIsr"
callback_word callback.EvtDpcFunc = codes "EvtDpcFunc"
callback_word callback.EvtInterruptDpc = codes "EvtInterruptDpc"
callback_word callback.EvtTimerFunc = codes "EvtTimerFunc"
callback_word callback.EvtRequestCompletion = codes "EvtRequestCompletion"
callback_word callback.EvtRequestCancel = codes "EvtRequestCancel"
callback_word callback.EvtIoCanceledOnQueue = codes "EvtIoCanceledOnQueue"
callback_word callback.EvtIoStop = codes "EvtIoStop"
callback_word callback.EvtIoResume = codes "EvtIoResume"
callback_word callback.EvtIoQueueState = codes "EvtIoQueueState"
callback_word callback.EvtIoRead = codes "EvtIoRead"
callback_word callback.EvtIoWrite = codes "EvtIoWrite"
callback_word callback.EvtIoDeviceControl = codes "EvtIoDeviceControl"
callback_word callback.EvtIoDefault = codes "EvtIoDefault"
callback_word callback.EvtDevicePrepareHardware = codes "EvtDevicePrepareHardware"
callback_word callback.EvtDeviceReleaseHardware = codes "EvtDeviceReleaseHardware"
callback_word callback.EvtDeviceD0Entry = codes "EvtDeviceD0Entry"
callback_word callback.EvtDeviceD0EntryPostInterruptsEnabled = codes "EvtDeviceD0EntryPostInterruptsEnabled"
callback_word callback.EvtDeviceD0ExitPreInterruptsDisabled = codes "EvtDeviceD0ExitPreInterruptsDisabled"
callback_word callback.EvtDeviceD0Exit = codes "EvtDeviceD0Exit"
callback_word callback.EvtDeviceSelfManagedIoInit = codes "EvtDeviceSelfManagedIoInit"
callback_word callback.EvtDeviceSelfManagedIoRestart = codes "EvtDeviceSelfManagedIoRestart"
callback_word callback.EvtDeviceSelfManagedIoSuspend = codes "EvtDeviceSelfManagedIoSuspend"
callback_word callback.EvtDeviceSelfManagedIoFlush = codes "EvtDeviceSelfManagedIoFlush"
callback_word callback.EvtDeviceSelfManagedIoCleanup = codes "EvtDeviceSelfManagedIoCleanup"
callback_word callback.EvtDeviceQueryStop = codes "EvtDeviceQueryStop"
callback_word callback.EvtDeviceQueryRemove = codes "EvtDeviceQueryRemove"
callback_word callback.EvtDeviceSurpriseRemoval = codes "EvtDeviceSurpriseRemoval"
callback_word callback.EvtInterruptEnable = codes "EvtInterruptEnable"
callback_word callback.EvtInterruptDisable = codes "EvtInterruptDisable"
callback_word callback.EvtWorkItem = codes "EvtWorkItem"
callback_word callback.EvtCleanupCallback = codes "EvtCleanupCallback"
callback_word callback.EvtDestroyCallback = codes "EvtDestroyCallback"

-- the callback that has this word
abbrev pub callback_of : List ℕ → Option Callback
callback_of word = find (λ x. bytes_eq (callback_word x) word) CALLBACKS

-- the word of a framework call
abbrev pub call_word : CallKind → List ℕ
call_word call.WdfObjectCreate = codes "WdfObjectCreate"
call_word call.WdfSpinLockCreate = codes "WdfSpinLockCreate"
call_word call.WdfWaitLockCreate = codes "WdfWaitLockCreate"
call_word call.WdfRequestCreate = codes "WdfRequestCreate"
call_word call.WdfDpcCreate = codes "WdfDpcCreate"
call_word call.WdfTimerCreate = codes "WdfTimerCreate"
call_word call.WdfWorkItemCreate = codes "WdfWorkItemCreate"
call_word call.WdfObjectDelete = codes "WdfObjectDelete"
call_word call.WdfObjectReference = codes "WdfObjectReference"
call_word call.WdfObjectDereference = codes "WdfObjectDereference"
call_word call.GetContext = codes "GetContext"
call_word call.SetContext = codes "SetContext"
call_word call.WdfSpinLockAcquire = codes "WdfSpinLockAcquire"
call_word call.WdfSpinLockRelease = codes "WdfSpinLockRelease"
call_word call.WdfWaitLockAcquire = codes "WdfWaitLockAcquire"
call_word call.WdfWaitLockRelease = codes "WdfWaitLockRelease"
call_word call.WdfInterruptAcquireLock = codes "WdfInterruptAcquireLock"
call_word call.WdfInterruptReleaseLock = codes "WdfInterruptReleaseLock"
call_word call.WdfRequestComplete = codes "WdfRequestComplete"
call_word call.WdfRequestMarkCancelableEx = codes "WdfRequestMarkCancelableEx"
call_word call.WdfRequestUnmarkCancelable = codes "WdfRequestUnmarkCancelable"
call_word call.WdfRequestIsCanceled = codes "WdfRequestIsCanceled"
call_word call.WdfRequestRequeue = codes "WdfRequestRequeue"
call_word call.WdfRequestForwardToIoQueue = codes "WdfRequestForwardToIoQueue"
call_word call.WdfRequestStopAcknowledge = codes "WdfRequestStopAcknowledge"
call_word call.WdfRequestSend = codes "WdfRequestSend"
call_word call.WdfRequestCancelSentRequest = codes "WdfRequestCancelSentRequest"
call_word call.WdfIoQueueStart = codes "WdfIoQueueStart"
call_word call.WdfIoQueueStop = codes "WdfIoQueueStop"
call_word call.WdfIoQueueDrain = codes "WdfIoQueueDrain"
call_word call.WdfIoQueuePurge = codes "WdfIoQueuePurge"
call_word call.WdfIoQueueStopSynchronously = codes "WdfIoQueueStopSynchronously"
call_word call.WdfIoQueueDrainSynchronously = codes "WdfIoQueueDrainSynchronously"
call_word call.WdfIoQueuePurgeSynchronously = codes "WdfIoQueuePurgeSynchronously"
call_word call.WdfIoQueueRetrieveNextRequest = codes "WdfIoQueueRetrieveNextRequest"
call_word call.WdfIoQueueReadyNotify = codes "WdfIoQueueReadyNotify"
call_word call.WdfInterruptQueueDpcForIsr = codes "WdfInterruptQueueDpcForIsr"
call_word call.WdfDpcEnqueue = codes "WdfDpcEnqueue"
call_word call.WdfDpcCancel = codes "WdfDpcCancel"
call_word call.WdfTimerStart = codes "WdfTimerStart"
call_word call.WdfTimerStop = codes "WdfTimerStop"
call_word call.WdfWorkItemEnqueue = codes "WdfWorkItemEnqueue"
call_word call.WdfWorkItemFlush = codes "WdfWorkItemFlush"
call_word call.WdfIoTargetStop = codes "WdfIoTargetStop"
call_word call.WdfIoTargetStart = codes "WdfIoTargetStart"

-- the framework call that has this word
abbrev pub call_of : List ℕ → Option CallKind
call_of word = find (λ x. bytes_eq (call_word x) word) CALL_KINDS

-- the word of a fault
abbrev pub fault_word : Fault → List ℕ
fault_word fault.StaleHandle = codes "StaleHandle"
fault_word fault.WrongKind = codes "WrongKind"
fault_word fault.IrqlTooHigh = codes "IrqlTooHigh"
fault_word fault.NotOwned = codes "NotOwned"
fault_word fault.CompleteWhileMarked = codes "CompleteWhileMarked"
fault_word fault.CompleteBeforeCancelCallback = codes "CompleteBeforeCancelCallback"
fault_word fault.MarkedTwice = codes "MarkedTwice"
fault_word fault.AckOutsideStop = codes "AckOutsideStop"
fault_word fault.NoReferenceHeld = codes "NoReferenceHeld"
fault_word fault.DeleteNotAllowed = codes "DeleteNotAllowed"
fault_word fault.LockHeldAlready = codes "LockHeldAlready"
fault_word fault.LockNotHeld = codes "LockNotHeld"
fault_word fault.ReturnHoldingLock = codes "ReturnHoldingLock"
fault_word fault.HardwareReleased = codes "HardwareReleased"
fault_word fault.SyncInOwnScope = codes "SyncInOwnScope"
fault_word fault.ScriptError = codes "ScriptError"

-- the fault that has this word
abbrev pub fault_of : List ℕ → Option Fault
fault_of word = find (λ x. bytes_eq (fault_word x) word) FAULTS

-- the word of a stage
abbrev pub stage_word : Stage → List ℕ
stage_word stage.Hardware = codes "hardware"
stage_word stage.NoHardware = codes "no_hardware"
stage_word stage.Enabled = codes "enabled"
stage_word stage.Disabled = codes "disabled"
stage_word stage.QueuesUp = codes "queues_up"
stage_word stage.QueuesDown = codes "queues_down"
stage_word stage.Settled = codes "settled"
stage_word stage.Quiet = codes "quiet"
stage_word stage.Closed = codes "closed"
stage_word stage.Working = codes "working"
stage_word stage.Sleeping = codes "sleeping"
stage_word stage.Removed = codes "removed"

-- the stage that has this word
abbrev pub stage_of : List ℕ → Option Stage
stage_of word = find (λ x. bytes_eq (stage_word x) word) STAGES

-- the word of what the Plug and Play manager asks
abbrev pub ask_word : Ask → List ℕ
ask_word ask.Start = codes "start"
ask_word ask.Sleep = codes "sleep"
ask_word ask.Wake = codes "wake"
ask_word ask.Rebalance = codes "rebalance"
ask_word ask.Remove = codes "remove"
ask_word ask.Surprise = codes "surprise"

-- what the Plug and Play manager asks that has this word
abbrev pub ask_of : List ℕ → Option Ask
ask_of word = find (λ x. bytes_eq (ask_word x) word) ASKS
