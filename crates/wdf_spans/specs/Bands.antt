-- The bands of a run: what holds of a device or a queue, from where to where, as a reader of the trace has it. (own)
use Rattle.std.specs.Prelude.{if◌then◌else◌, ℕ, ◌==◌, ◌+◌, Bool, false, List, [], ◌∷◌, ◌++◌, Option, Some, None, unwrap_or}
use Rattle.wdf_base.specs.declared.ids.ObjectId.{ObjectId}
use Rattle.wdf_base.specs.declared.call.Arg.{Arg}
use Rattle.wdf_base.specs.declared.call.Arg.TheVariants.{Val}
use Rattle.wdf_base.specs.declared.call.Call.{Call}
use Rattle.wdf_base.specs.declared.call.CallKind.{CallKind}
use Rattle.wdf_base.specs.declared.call.CallKind.TheVariants as call
use Rattle.wdf_base.specs.declared.call.Callback.{Callback}
use Rattle.wdf_base.specs.declared.call.Callback.TheVariants as callback
use Rattle.wdf_base.specs.declared.value.Value.{Value}
use Rattle.wdf_base.specs.declared.value.Value.TheVariants.{Obj, Stat}
use Rattle.wdf_base.specs.declared.value.Status.TheVariants.{Success}
use Rattle.wdf_base.specs.declared.event.Stage.{Stage}
use Rattle.wdf_base.specs.declared.event.Stage.TheVariants as stage
use Rattle.wdf_base.specs.declared.event.Event.{Event}
use Rattle.wdf_base.specs.declared.event.Event.TheVariants as event
use Rattle.wdf_spans.specs.declared.bands.Band.{Band}
use Rattle.wdf_spans.specs.declared.bands.Band.TheVariants.{Phase, Power, Delivery, Mode}
use Rattle.wdf_spans.specs.declared.bands.Standing.{Standing}
use Rattle.wdf_spans.specs.declared.bands.Standing.TheVariants as standing
use Rattle.wdf_spans.specs.declared.bands.BandOf.{BandOf}
use Rattle.wdf_spans.specs.declared.bands.BandPiece.{BandPiece}

-- an argument is the object with this id
abbrev pub is_about : Arg → ObjectId → Bool
is_about (Val (Obj h)) o = h.id.0 == o.0
is_about _ o = false

-- ---- which band

-- what holds before the first event of a device that works at the opening, or doesn't; a queue is Started
abbrev pub opening : Band → Bool → Standing
opening Phase working = if working then standing.Working else standing.Off
opening Power working = if working then standing.Powered else standing.Unpowered
opening Delivery working = if working then standing.QueuesUp else standing.QueuesDown
opening Mode working = standing.Started

-- a band of a device
abbrev pub device_band : Band → ObjectId → Bool → BandOf
device_band b o working = record { band = b; object = o; device = o; opening = opening b working }

-- the mode of a queue of a device
abbrev pub queue_band : ObjectId → ObjectId → BandOf
queue_band q device = record { band = Mode; object = q; device = device; opening = standing.Started }

-- ---- what events tell

-- a device is Working, Sleeping or Removed from that stage on
abbrev pub phase_by_stage : Stage → Option Standing
phase_by_stage stage.Working = Some standing.Working
phase_by_stage stage.Sleeping = Some standing.Sleeping
phase_by_stage stage.Removed = Some standing.Removed
phase_by_stage _ = None

-- where no callback tells it: a device has power when its first interrupt is enabled or its queues come up, and has none when it
-- sleeps, gives its hardware back or is removed
abbrev pub power_by_stage : Stage → Option Standing
power_by_stage stage.Enabled = Some standing.Powered
power_by_stage stage.QueuesUp = Some standing.Powered
power_by_stage stage.Sleeping = Some standing.Unpowered
power_by_stage stage.NoHardware = Some standing.Unpowered
power_by_stage stage.Removed = Some standing.Unpowered
power_by_stage _ = None

-- its power-managed queues come up and go down
abbrev pub delivery_by_stage : Stage → Option Standing
delivery_by_stage stage.QueuesUp = Some standing.QueuesUp
delivery_by_stage stage.QueuesDown = Some standing.QueuesDown
delivery_by_stage _ = None

-- a queue is Purged for good when its device is closed
abbrev pub mode_by_stage : Stage → Option Standing
mode_by_stage stage.Closed = Some standing.Closed
mode_by_stage _ = None

-- a stage of the device tells this
abbrev pub by_stage : Band → Stage → Option Standing
by_stage Phase s = phase_by_stage s
by_stage Power s = power_by_stage s
by_stage Delivery s = delivery_by_stage s
by_stage Mode s = mode_by_stage s

-- power goes where EvtDeviceD0Exit starts
abbrev pub power_by_start : Callback → Option Standing
power_by_start callback.EvtDeviceD0Exit = Some standing.Unpowered
power_by_start _ = None

-- the start of a callback of the object tells this
abbrev pub by_start : Band → Callback → Option Standing
by_start Power c = power_by_start c
by_start _ c = None

-- a result that lets a power-up go on
abbrev pub power_by_value : Value → Option Standing
power_by_value (Stat Success) = Some standing.Powered
power_by_value _ = None

-- power is there where EvtDeviceD0Entry ends with SUCCESS
abbrev pub power_by_end : Callback → Value → Option Standing
power_by_end callback.EvtDeviceD0Entry v = power_by_value v
power_by_end _ v = None

-- the end of a callback of the object tells this
abbrev pub by_end : Band → Callback → Value → Option Standing
by_end Power c v = power_by_end c v
by_end _ c v = None

-- the calls that give a queue its mode, with or without a wait behind them
abbrev pub mode_by_call : CallKind → Option Standing
mode_by_call call.WdfIoQueueStart = Some standing.Started
mode_by_call call.WdfIoQueueStop = Some standing.Stopped
mode_by_call call.WdfIoQueueStopSynchronously = Some standing.Stopped
mode_by_call call.WdfIoQueueDrain = Some standing.Drained
mode_by_call call.WdfIoQueueDrainSynchronously = Some standing.Drained
mode_by_call call.WdfIoQueuePurge = Some standing.Purged
mode_by_call call.WdfIoQueuePurgeSynchronously = Some standing.Purged
mode_by_call _ = None

-- a call on the object tells this
abbrev pub by_call : Band → CallKind → Option Standing
by_call Mode k = mode_by_call k
by_call _ k = None

-- a call tells this of a band, where it is on its object
abbrev pub told_by_call : BandOf → Call → Option Standing
told_by_call of call = if is_about call.a of.object then by_call of.band call.kind else None

-- an event tells this of a band
abbrev pub told : BandOf → Event → Option Standing
told of (event.Stage device stage interrupt) = if device.id.0 == of.device.0 then by_stage of.band stage else None
told of (event.Start cpu callback object request) = if object.id.0 == of.object.0 then by_start of.band callback else None
told of (event.End cpu callback object value) = if object.id.0 == of.object.0 then by_end of.band callback value else None
told of (event.Did cpu call answer) = told_by_call of call
told of (event.Waiting cpu call) = told_by_call of call
told of _ = None

-- the place of a standing in their list
abbrev pub number : Standing → ℕ
number standing.Off = 0
number standing.Working = 1
number standing.Sleeping = 2
number standing.Removed = 3
number standing.Powered = 4
number standing.Unpowered = 5
number standing.QueuesUp = 6
number standing.QueuesDown = 7
number standing.Started = 8
number standing.Stopped = 9
number standing.Drained = 10
number standing.Purged = 11
number standing.Closed = 12

-- what is told, where it is other than what holds
abbrev pub turned : Standing → Option Standing → Option Standing
turned s None = None
turned s (Some other) = if number s == number other then None else Some other

-- what holds of a band from an event on, where it is other than before; a queue that is closed stays so
abbrev pub next : BandOf → Standing → Event → Option Standing
next of standing.Closed e = None
next of s e = turned s (told of e)

-- ---- pieces

abbrev pub piece : Standing → ℕ → ℕ → BandPiece
piece s from to = record { standing = s; from = from; to = to }

-- the piece that ends where something else holds from this slot on
abbrev pub ended : Standing → ℕ → ℕ → Option Standing → List BandPiece
ended s since at None = []
ended s since at (Some other) = piece s since at ∷ []

-- the slot since which what holds has held
abbrev pub since_when : ℕ → ℕ → Option Standing → ℕ
since_when since at None = since
since_when since at (Some other) = at

-- the pieces of a band in which this has held since a slot, with the events from slot `at` on
abbrev pub pieces_from : BandOf → Standing → ℕ → ℕ → List Event → List BandPiece
pieces_from of s since at [] = piece s since at ∷ []
pieces_from of s since at (e ∷ es) =
    ended s since at (next of s e) ++ pieces_from of (unwrap_or (next of s e) s) (since_when since at (next of s e)) (at + 1) es

-- the pieces of a band in a run
abbrev pub pieces_of : BandOf → List Event → List BandPiece
pieces_of of es = pieces_from of of.opening 0 0 es
