-- What a reader expects of the faults: sixteen small mistakes, in the order of the table, and next to
-- each the same thing done right.
use Rattle.std.specs.Prelude.{ℕ, true, false, List, [], ◌∷◌, Option, Some, None}
use Rattle.wdf_base.specs.declared.ids.Handle.{Handle}
use Rattle.wdf_base.specs.declared.value.Status.TheVariants as status
use Rattle.wdf_base.specs.declared.value.Value.{Value}
use Rattle.wdf_base.specs.declared.value.Value.TheVariants.{Num, Obj, Stat}
use Rattle.wdf_base.specs.declared.object.Kind.TheVariants as kind
use Rattle.wdf_base.specs.declared.object.Life.TheVariants as life
use Rattle.wdf_base.specs.declared.object.Place.TheVariants as place
use Rattle.wdf_base.specs.declared.object.Mark.TheVariants as mark
use Rattle.wdf_base.specs.declared.call.Arg.TheVariants.{Val}
use Rattle.wdf_base.specs.declared.call.CallKind.{CallKind}
use Rattle.wdf_base.specs.declared.call.CallKind.TheVariants as call
use Rattle.wdf_base.specs.declared.call.Callback.TheVariants as callback
use Rattle.wdf_base.specs.declared.event.Fault.{Fault}
use Rattle.wdf_base.specs.declared.frame.Frame.{Frame}
use Rattle.wdf_base.specs.declared.frame.Intent.{Intent}
use Rattle.wdf_base.specs.declared.frame.Intent.TheVariants as intent
use Rattle.wdf_model.specs.parts.Cpus.{blank_frame}
use Rattle.wdf_model.specs.rules.Faults.{View, fault_of}

-- what a frame is about to do, in a view of the state
pub record Deal : Type 0 where
  pub view : View
  pub about : Intent

-- that the frame of view v is about to do i
abbrev pub deal : View → Intent → Deal
deal v i = record { view = v; about = i }

-- the fault of it, none where it is done right
abbrev pub fault_in_deal : Deal → Option Fault
fault_in_deal d = fault_of d.view d.about

-- the object with this id; the queue has 3, its request 5
abbrev pub thing : ℕ → Handle
thing id = record { id = record { 0 = id }; name = 0 }

-- a frame of the EvtIoRead of queue 3 for request 5
abbrev pub reading : Frame
reading = record blank_frame { callback = callback.EvtIoRead; object = thing 3; request = Some (thing 5) }

-- a frame of the EvtIoStop of queue 3 for request 5
abbrev pub stopping : Frame
stopping = record blank_frame { callback = callback.EvtIoStop; object = thing 3; request = Some (thing 5) }

-- frame 7, which reads, owns the request, holds no lock, and sees only live requests
abbrev pub calm : View
calm = record {
  frame = reading;
  number = 7;
  irql = 0;
  life = λ o. life.Live;
  kind = λ o. kind.Request;
  references = λ o. 1;
  level_of = λ o. 0;
  scope = λ o. None;
  place = λ r. place.Owned;
  origin = λ r. Some 3;
  mark = λ r. mark.Unmarked;
  held = λ r. true;
  acknowledged = λ r. false;
  holder = λ l. None;
  by_call = λ l. false;
  held_by_call = 0;
  hardware = λ k. true;
}

-- call k about the object with this id
abbrev pub calls : CallKind → ℕ → Intent
calls k id = intent.Do (record { kind = k; count = 1; a = Val (Obj (thing id)); b = Val (Num 0); c = Val (Num 0) })

-- request 5 is completed with value v
abbrev pub completes : Value → Intent
completes v = intent.Do (record { kind = call.WdfRequestComplete; count = 2; a = Val (Obj (thing 5)); b = Val v; c = Val (Num 0) })

-- the status with which a request is completed that went well
abbrev pub well : Value
well = Stat status.Success

-- the sixteen mistakes, in the order of the table of faults
abbrev pub MISTAKES : List Deal
MISTAKES =
    -- the request is gone
    deal (record calm { life = λ o. life.Gone }) (completes well)
    -- it is a queue
    ∷ deal (record calm { kind = λ o. kind.Queue }) (completes well)
    -- the level is 3
    ∷ deal (record calm { irql = 3 }) (completes well)
    -- it is sent
    ∷ deal (record calm { place = λ r. place.Sent (record { 0 = 4 }) }) (completes well)
    -- it is cancelable
    ∷ deal (record calm { mark = λ r. mark.Marked }) (completes well)
    -- and its cancel is due
    ∷ deal (record calm { mark = λ r. mark.Due }) (completes well)
    -- it is marked again
    ∷ deal (record calm { mark = λ r. mark.Marked }) (calls call.WdfRequestMarkCancelableEx 5)
    -- it is acknowledged by its EvtIoRead
    ∷ deal calm (calls call.WdfRequestStopAcknowledge 5)
    -- no reference to it is held
    ∷ deal (record calm { references = λ o. 0 }) (calls call.WdfObjectDereference 5)
    -- a request that arrived is deleted
    ∷ deal calm (calls call.WdfObjectDelete 5)
    -- this frame acquires a lock that it holds
    ∷ deal (record calm { kind = λ o. kind.WaitLock; holder = λ l. Some 7 }) (calls call.WdfWaitLockAcquire 6)
    -- it releases a lock that it didn't acquire
    ∷ deal (record calm { kind = λ o. kind.WaitLock }) (calls call.WdfWaitLockRelease 6)
    -- it returns with a lock
    ∷ deal (record calm { held_by_call = 1 }) (intent.Return well)
    -- the hardware of a register is gone
    ∷ deal (record calm { hardware = λ k. false }) (intent.Get 0)
    -- it waits for its own queue
    ∷ deal (record calm { kind = λ o. kind.Queue }) (calls call.WdfIoQueueStopSynchronously 3)
    -- a number is no status
    ∷ deal calm (completes (Num 5))
    ∷ []

-- next to each mistake the same done right
abbrev pub DONE_RIGHT : List Deal
DONE_RIGHT =
    -- its deletion is asked
    deal (record calm { life = λ o. life.Asked }) (completes well)
    -- it is a request that arrived
    ∷ deal (record calm { kind = λ o. kind.Request }) (completes well)
    -- the level is 2
    ∷ deal (record calm { irql = 2 }) (completes well)
    -- it is owned
    ∷ deal (record calm { place = λ r. place.Owned }) (completes well)
    -- it isn't cancelable any more
    ∷ deal (record calm { mark = λ r. mark.Unmarked }) (completes well)
    -- its cancel is taken
    ∷ deal (record calm { mark = λ r. mark.Taken }) (completes well)
    -- it is marked for the first time
    ∷ deal calm (calls call.WdfRequestMarkCancelableEx 5)
    -- it is acknowledged by its EvtIoStop
    ∷ deal (record calm { frame = stopping }) (calls call.WdfRequestStopAcknowledge 5)
    -- a reference is held
    ∷ deal (record calm { references = λ o. 1 }) (calls call.WdfObjectDereference 5)
    -- a request that the driver made is deleted
    ∷ deal (record calm { kind = λ o. kind.Made }) (calls call.WdfObjectDelete 5)
    -- another frame holds the lock
    ∷ deal (record calm { kind = λ o. kind.WaitLock; holder = λ l. Some 8 }) (calls call.WdfWaitLockAcquire 6)
    -- it acquired the lock
    ∷ deal (record calm { kind = λ o. kind.WaitLock; by_call = λ l. true }) (calls call.WdfWaitLockRelease 6)
    -- it returns without a lock
    ∷ deal (record calm { held_by_call = 0 }) (intent.Return well)
    -- the hardware is there
    ∷ deal (record calm { hardware = λ k. true }) (intent.Get 0)
    -- it waits for another queue
    ∷ deal (record calm { kind = λ o. kind.Queue }) (calls call.WdfIoQueueStopSynchronously 4)
    -- a status is one
    ∷ deal calm (completes (Stat status.Cancelled))
    ∷ []
