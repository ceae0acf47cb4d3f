-- What each framework call takes, and how high it may be made: one row a call.
use Rattle.std.specs.Prelude.{Bool, true, false, ℕ, ◌+◌}
use Rattle.wdf_base.specs.declared.call.CallKind.{CallKind}
use Rattle.wdf_base.specs.declared.call.CallKind.TheVariants as call
use Rattle.wdf_base.specs.declared.object.Kind.TheVariants as kind
use Rattle.wdf_base.specs.declared.signature.Sort.{Sort}
use Rattle.wdf_base.specs.declared.signature.Sort.TheVariants as sort
use Rattle.wdf_base.specs.declared.signature.CallLevel.{CallLevel}
use Rattle.wdf_base.specs.declared.signature.CallLevel.TheVariants as level
use Rattle.wdf_base.specs.declared.signature.Signature.{Signature}

-- a row: the greatest level, the sorts of the three arguments, and whether a Cleaned object will do
abbrev pub row : CallLevel → Sort → Sort → Sort → Bool → Signature
row l x y z t = record { level = l; a = x; b = y; c = z; cleaned = t }

-- the calls that acquire a lock
abbrev pub is_acquire : CallKind → Bool
is_acquire call.WdfSpinLockAcquire = true
is_acquire call.WdfWaitLockAcquire = true
is_acquire call.WdfInterruptAcquireLock = true
is_acquire _ = false

-- the calls that give a lock back
abbrev pub is_release : CallKind → Bool
is_release call.WdfSpinLockRelease = true
is_release call.WdfWaitLockRelease = true
is_release call.WdfInterruptReleaseLock = true
is_release _ = false

-- the row of a call
abbrev pub signature_of : CallKind → Signature
signature_of call.WdfObjectCreate = row (level.AtMost (record { 0 = 2 })) (sort.Class kind.General) sort.AnyObject sort.Absent false
signature_of call.WdfSpinLockCreate = row (level.AtMost (record { 0 = 2 })) (sort.Class kind.SpinLock) sort.AnyObject sort.Absent false
signature_of call.WdfWaitLockCreate = row (level.AtMost (record { 0 = 2 })) (sort.Class kind.WaitLock) sort.AnyObject sort.Absent false
signature_of call.WdfRequestCreate = row (level.AtMost (record { 0 = 2 })) (sort.Class kind.Made) sort.AnyObject sort.Absent false
signature_of call.WdfDpcCreate = row (level.AtMost (record { 0 = 2 })) (sort.Class kind.Dpc) sort.Absent sort.Absent false
signature_of call.WdfTimerCreate = row (level.AtMost (record { 0 = 2 })) (sort.Class kind.Timer) sort.Absent sort.Absent false
signature_of call.WdfWorkItemCreate = row (level.AtMost (record { 0 = 2 })) (sort.Class kind.WorkItem) sort.Absent sort.Absent false
signature_of call.WdfObjectDelete = row (level.AtMost (record { 0 = 2 })) sort.AnyObject sort.Absent sort.Absent false
signature_of call.WdfObjectReference = row (level.AtMost (record { 0 = 2 })) sort.AnyObject sort.Absent sort.Absent true
signature_of call.WdfObjectDereference = row (level.AtMost (record { 0 = 2 })) sort.AnyObject sort.Absent sort.Absent true
signature_of call.GetContext = row (level.AtMost (record { 0 = 12 })) sort.AnyObject (sort.UpTo 7) sort.Absent true
signature_of call.SetContext = row (level.AtMost (record { 0 = 12 })) sort.AnyObject (sort.UpTo 7) sort.AnyValue true
signature_of call.WdfSpinLockAcquire = row (level.AtMost (record { 0 = 2 })) (sort.ObjectOf kind.SpinLock) sort.Absent sort.Absent false
signature_of call.WdfSpinLockRelease = row (level.AtMost (record { 0 = 2 })) (sort.ObjectOf kind.SpinLock) sort.Absent sort.Absent false
signature_of call.WdfWaitLockAcquire = row (level.AtMost (record { 0 = 0 })) (sort.ObjectOf kind.WaitLock) sort.Absent sort.Absent false
signature_of call.WdfWaitLockRelease = row (level.AtMost (record { 0 = 2 })) (sort.ObjectOf kind.WaitLock) sort.Absent sort.Absent false
signature_of call.WdfInterruptAcquireLock = row level.OfInterrupt (sort.ObjectOf kind.Interrupt) sort.Absent sort.Absent false
signature_of call.WdfInterruptReleaseLock = row level.OfInterrupt (sort.ObjectOf kind.Interrupt) sort.Absent sort.Absent false
signature_of call.WdfRequestComplete = row (level.AtMost (record { 0 = 2 })) (sort.ObjectOf kind.Request) sort.AnyStatus sort.Absent false
signature_of call.WdfRequestMarkCancelableEx = row (level.AtMost (record { 0 = 2 })) (sort.ObjectOf kind.Request) sort.Absent sort.Absent false
signature_of call.WdfRequestUnmarkCancelable = row (level.AtMost (record { 0 = 2 })) (sort.ObjectOf kind.Request) sort.Absent sort.Absent true
signature_of call.WdfRequestIsCanceled = row (level.AtMost (record { 0 = 2 })) (sort.ObjectOf kind.Request) sort.Absent sort.Absent false
signature_of call.WdfRequestRequeue = row (level.AtMost (record { 0 = 2 })) (sort.ObjectOf kind.Request) sort.Absent sort.Absent false
signature_of call.WdfRequestForwardToIoQueue = row (level.AtMost (record { 0 = 2 })) (sort.ObjectOf kind.Request) (sort.ObjectOf kind.Queue) sort.Absent false
signature_of call.WdfRequestStopAcknowledge = row (level.AtMost (record { 0 = 2 })) (sort.ObjectOf kind.Request) sort.AnyNumber sort.Absent false
signature_of call.WdfRequestSend = row (level.AtMost (record { 0 = 2 })) sort.AnyRequest (sort.ObjectOf kind.Target) (sort.UpTo 1) false
signature_of call.WdfRequestCancelSentRequest = row (level.AtMost (record { 0 = 2 })) sort.AnyRequest sort.Absent sort.Absent false
signature_of call.WdfIoQueueStart = row (level.AtMost (record { 0 = 2 })) (sort.ObjectOf kind.Queue) sort.Absent sort.Absent false
signature_of call.WdfIoQueueStop = row (level.AtMost (record { 0 = 2 })) (sort.ObjectOf kind.Queue) sort.Absent sort.Absent false
signature_of call.WdfIoQueueDrain = row (level.AtMost (record { 0 = 2 })) (sort.ObjectOf kind.Queue) sort.Absent sort.Absent false
signature_of call.WdfIoQueuePurge = row (level.AtMost (record { 0 = 2 })) (sort.ObjectOf kind.Queue) sort.Absent sort.Absent false
signature_of call.WdfIoQueueStopSynchronously = row (level.AtMost (record { 0 = 0 })) (sort.ObjectOf kind.Queue) sort.Absent sort.Absent false
signature_of call.WdfIoQueueDrainSynchronously = row (level.AtMost (record { 0 = 0 })) (sort.ObjectOf kind.Queue) sort.Absent sort.Absent false
signature_of call.WdfIoQueuePurgeSynchronously = row (level.AtMost (record { 0 = 0 })) (sort.ObjectOf kind.Queue) sort.Absent sort.Absent false
signature_of call.WdfIoQueueRetrieveNextRequest = row (level.AtMost (record { 0 = 2 })) (sort.ObjectOf kind.Queue) sort.Absent sort.Absent false
signature_of call.WdfIoQueueReadyNotify = row (level.AtMost (record { 0 = 2 })) (sort.ObjectOf kind.Queue) sort.AnyNumber sort.Absent false
signature_of call.WdfInterruptQueueDpcForIsr = row (level.AtMost (record { 0 = 12 })) (sort.ObjectOf kind.Interrupt) sort.Absent sort.Absent false
signature_of call.WdfDpcEnqueue = row (level.AtMost (record { 0 = 12 })) (sort.ObjectOf kind.Dpc) sort.Absent sort.Absent false
signature_of call.WdfDpcCancel = row (level.DispatchIf 0) (sort.ObjectOf kind.Dpc) sort.AnyNumber sort.Absent false
signature_of call.WdfTimerStart = row (level.AtMost (record { 0 = 2 })) (sort.ObjectOf kind.Timer) sort.AnyNumber sort.Absent false
signature_of call.WdfTimerStop = row (level.DispatchIf 0) (sort.ObjectOf kind.Timer) sort.AnyNumber sort.Absent false
signature_of call.WdfWorkItemEnqueue = row (level.AtMost (record { 0 = 2 })) (sort.ObjectOf kind.WorkItem) sort.Absent sort.Absent false
signature_of call.WdfWorkItemFlush = row (level.AtMost (record { 0 = 0 })) (sort.ObjectOf kind.WorkItem) sort.Absent sort.Absent false
signature_of call.WdfIoTargetStop = row (level.DispatchIf 2) (sort.ObjectOf kind.Target) (sort.UpTo 2) sort.Absent false
signature_of call.WdfIoTargetStart = row (level.AtMost (record { 0 = 2 })) (sort.ObjectOf kind.Target) sort.Absent sort.Absent false

-- one argument, or none
abbrev pub one_argument : Sort → ℕ
one_argument sort.Absent = 0
one_argument _ = 1

-- how many arguments a row has
abbrev pub argument_count : Signature → ℕ
argument_count s = one_argument s.a + one_argument s.b + one_argument s.c
