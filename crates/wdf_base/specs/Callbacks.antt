-- When callbacks come, on what, how high and under which lock: one row a callback.
use Rattle.std.specs.Prelude.{Bool, true, false, ℕ}
use Rattle.wdf_base.specs.declared.call.Callback.{Callback}
use Rattle.wdf_base.specs.declared.call.Callback.TheVariants as callback
use Rattle.wdf_base.specs.declared.object.Kind.{Kind}
use Rattle.wdf_base.specs.declared.object.Kind.TheVariants as kind
use Rattle.wdf_base.specs.declared.rank.Rank.{Rank}
use Rattle.wdf_base.specs.declared.rank.Rank.TheVariants as rank
use Rattle.wdf_base.specs.declared.rank.Owner.{Owner}
use Rattle.wdf_base.specs.declared.rank.Owner.TheVariants as owner
use Rattle.wdf_base.specs.declared.rank.CallbackLevel.{CallbackLevel}
use Rattle.wdf_base.specs.declared.rank.CallbackLevel.TheVariants as level
use Rattle.wdf_base.specs.declared.rank.CallbackLock.{CallbackLock}
use Rattle.wdf_base.specs.declared.rank.CallbackLock.TheVariants as lock
use Rattle.wdf_base.specs.declared.rank.CallbackRow.{CallbackRow}

-- a row: the rank, the object, the level and the lock
abbrev pub callback_row : Rank → Owner → CallbackLevel → CallbackLock → CallbackRow
callback_row r o l k = record { rank = r; owner = o; level = l; lock = k }

-- the row of a callback
abbrev pub row_of : Callback → CallbackRow
row_of callback.EvtInterruptIsr = callback_row rank.Isr (owner.Of kind.Interrupt) level.OfInterrupt lock.InterruptLock
row_of callback.EvtDpcFunc = callback_row rank.Deferred (owner.Of kind.Dpc) (level.Level (record { 0 = 2 })) lock.ParentScope
row_of callback.EvtInterruptDpc = callback_row rank.Deferred (owner.Of kind.Interrupt) (level.Level (record { 0 = 2 })) lock.NoLock
row_of callback.EvtTimerFunc = callback_row rank.Timed (owner.Of kind.Timer) (level.Level (record { 0 = 2 })) lock.ParentScope
row_of callback.EvtRequestCompletion = callback_row rank.Completion (owner.Of kind.Target) (level.Level (record { 0 = 2 })) lock.NoLock
row_of callback.EvtRequestCancel = callback_row rank.Cancel (owner.Of kind.Queue) level.OfQueue lock.QueueLock
row_of callback.EvtIoCanceledOnQueue = callback_row rank.CanceledOnQueue (owner.Of kind.Queue) level.OfQueue lock.QueueLock
row_of callback.EvtIoStop = callback_row rank.Stop (owner.Of kind.Queue) level.OfQueue lock.QueueLock
row_of callback.EvtIoResume = callback_row rank.Resume (owner.Of kind.Queue) level.OfQueue lock.QueueLock
row_of callback.EvtIoQueueState = callback_row rank.QueueState (owner.Of kind.Queue) level.OfQueue lock.QueueLock
row_of callback.EvtIoRead = callback_row rank.Handler (owner.Of kind.Queue) level.OfQueue lock.QueueLock
row_of callback.EvtIoWrite = callback_row rank.Handler (owner.Of kind.Queue) level.OfQueue lock.QueueLock
row_of callback.EvtIoDeviceControl = callback_row rank.Handler (owner.Of kind.Queue) level.OfQueue lock.QueueLock
row_of callback.EvtIoDefault = callback_row rank.Handler (owner.Of kind.Queue) level.OfQueue lock.QueueLock
row_of callback.EvtDevicePrepareHardware = callback_row rank.Sequence (owner.Of kind.Device) (level.Level (record { 0 = 0 })) lock.NoLock
row_of callback.EvtDeviceReleaseHardware = callback_row rank.Sequence (owner.Of kind.Device) (level.Level (record { 0 = 0 })) lock.NoLock
row_of callback.EvtDeviceD0Entry = callback_row rank.Sequence (owner.Of kind.Device) (level.Level (record { 0 = 0 })) lock.NoLock
row_of callback.EvtDeviceD0EntryPostInterruptsEnabled = callback_row rank.Sequence (owner.Of kind.Device) (level.Level (record { 0 = 0 })) lock.NoLock
row_of callback.EvtDeviceD0ExitPreInterruptsDisabled = callback_row rank.Sequence (owner.Of kind.Device) (level.Level (record { 0 = 0 })) lock.NoLock
row_of callback.EvtDeviceD0Exit = callback_row rank.Sequence (owner.Of kind.Device) (level.Level (record { 0 = 0 })) lock.NoLock
row_of callback.EvtDeviceSelfManagedIoInit = callback_row rank.Sequence (owner.Of kind.Device) (level.Level (record { 0 = 0 })) lock.NoLock
row_of callback.EvtDeviceSelfManagedIoRestart = callback_row rank.Sequence (owner.Of kind.Device) (level.Level (record { 0 = 0 })) lock.NoLock
row_of callback.EvtDeviceSelfManagedIoSuspend = callback_row rank.Sequence (owner.Of kind.Device) (level.Level (record { 0 = 0 })) lock.NoLock
row_of callback.EvtDeviceSelfManagedIoFlush = callback_row rank.Sequence (owner.Of kind.Device) (level.Level (record { 0 = 0 })) lock.NoLock
row_of callback.EvtDeviceSelfManagedIoCleanup = callback_row rank.Sequence (owner.Of kind.Device) (level.Level (record { 0 = 0 })) lock.NoLock
row_of callback.EvtDeviceQueryStop = callback_row rank.Sequence (owner.Of kind.Device) (level.Level (record { 0 = 0 })) lock.NoLock
row_of callback.EvtDeviceQueryRemove = callback_row rank.Sequence (owner.Of kind.Device) (level.Level (record { 0 = 0 })) lock.NoLock
row_of callback.EvtDeviceSurpriseRemoval = callback_row rank.Sequence (owner.Of kind.Device) (level.Level (record { 0 = 0 })) lock.NoLock
row_of callback.EvtInterruptEnable = callback_row rank.Sequence (owner.Of kind.Interrupt) level.OfInterrupt lock.InterruptLock
row_of callback.EvtInterruptDisable = callback_row rank.Sequence (owner.Of kind.Interrupt) level.OfInterrupt lock.InterruptLock
row_of callback.EvtWorkItem = callback_row rank.Work (owner.Of kind.WorkItem) (level.Level (record { 0 = 0 })) lock.ParentScope
row_of callback.EvtCleanupCallback = callback_row rank.Cleanup owner.ClassOrDevice (level.Level (record { 0 = 0 })) lock.NoLock
row_of callback.EvtDestroyCallback = callback_row rank.Destroy owner.ClassOrDevice (level.Level (record { 0 = 0 })) lock.NoLock

-- the callbacks on an interrupt that run with its lock held (KMDF)
abbrev pub takes_interrupt_lock : Callback → Bool
takes_interrupt_lock callback.EvtInterruptIsr = true
takes_interrupt_lock callback.EvtInterruptEnable = true
takes_interrupt_lock callback.EvtInterruptDisable = true
takes_interrupt_lock _ = false

-- the callbacks by which the driver of a working device may refuse what is asked (KMDF)
abbrev pub is_query : Callback → Bool
is_query callback.EvtDeviceQueryStop = true
is_query callback.EvtDeviceQueryRemove = true
is_query _ = false

-- the place of a rank in the order of starts, from 1
abbrev pub rank_number : Rank → ℕ
rank_number rank.Isr = 1
rank_number rank.Deferred = 2
rank_number rank.Timed = 3
rank_number rank.Completion = 4
rank_number rank.Cancel = 5
rank_number rank.CanceledOnQueue = 6
rank_number rank.Stop = 7
rank_number rank.Resume = 8
rank_number rank.QueueState = 9
rank_number rank.Handler = 10
rank_number rank.Sequence = 11
rank_number rank.Work = 12
rank_number rank.Cleanup = 13
rank_number rank.Destroy = 14

-- whether the callbacks of a rank are for one request
abbrev pub carries_request : Rank → Bool
carries_request rank.Completion = true
carries_request rank.Cancel = true
carries_request rank.CanceledOnQueue = true
carries_request rank.Stop = true
carries_request rank.Resume = true
carries_request rank.Handler = true
carries_request _ = false

-- what an entry of a DPC list runs, by the kind of its object: EvtInterruptDpc of an interrupt, EvtDpcFunc of a DPC
-- (KMDF)
abbrev pub dpc_function : Kind → Callback
dpc_function kind.Interrupt = callback.EvtInterruptDpc
dpc_function _ = callback.EvtDpcFunc
