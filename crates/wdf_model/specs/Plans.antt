-- What a plan says of its objects, in the machine's words: ids are numbers.
use Rattle.std.specs.Prelude.{if◌then◌else◌, ℕ, suc, ◌+◌, ◌-◌, ◌==◌, nat_lt, Bool, true, false, ◌&&◌, List, length, filter, Option, Some, None, is_some, unwrap_or, slice_get, find, position, option_map}
use Rattle.std.specs.List.{range_with_len}
use Rattle.wdf_base.specs.declared.plan.Plan.{Plan}
use Rattle.wdf_base.specs.declared.object.Kind.{Kind}
use Rattle.wdf_base.specs.declared.object.Kind.TheVariants as kind
use Rattle.wdf_base.specs.declared.object.RequestForm.{RequestForm}
use Rattle.wdf_base.specs.declared.object.RequestForm.TheVariants as form
use Rattle.wdf_base.specs.declared.object.LockRef.{LockRef}
use Rattle.wdf_base.specs.declared.object.LockRef.TheVariants as lock
use Rattle.wdf_base.specs.declared.call.Callback.{Callback}
use Rattle.wdf_base.specs.declared.call.Callback.TheVariants as callback
use Rattle.wdf_base.specs.declared.declared.Declared.{Declared}
use Rattle.wdf_base.specs.declared.declared.Declared.TheVariants as declared
use Rattle.wdf_base.specs.declared.declared.DeviceInfo.{DeviceInfo}
use Rattle.wdf_base.specs.declared.declared.QueueInfo.{QueueInfo}
use Rattle.wdf_base.specs.declared.declared.InterruptInfo.{InterruptInfo}
use Rattle.wdf_base.specs.declared.declared.TargetInfo.{TargetInfo}
use Rattle.wdf_base.specs.declared.declared.ClassInfo.{ClassInfo}
use Rattle.wdf_base.specs.declared.declared.ClassInfo.TheVariants as class
use Rattle.wdf_base.specs.declared.declared.Scope.{Scope}
use Rattle.wdf_base.specs.declared.declared.Scope.TheVariants as scope
use Rattle.wdf_base.specs.declared.declared.ExecutionLevel.{ExecutionLevel}
use Rattle.wdf_base.specs.declared.declared.ExecutionLevel.TheVariants as level
use Rattle.wdf_base.specs.declared.declared.DispatchKind.{DispatchKind}
use Rattle.wdf_base.specs.declared.declared.DispatchKind.TheVariants as dispatch
use Rattle.wdf_base.specs.declared.rank.CallbackLevel.{CallbackLevel}
use Rattle.wdf_base.specs.declared.rank.CallbackLevel.TheVariants as callback_level
use Rattle.wdf_base.specs.Callbacks.{row_of}
use Rattle.wdf_base.specs.Kinds.{class_kind, class_name}
use Rattle.wdf_base.specs.Plan.{declared_of, script_of}
use Rattle.wdf_base.specs.Resolved.{app_count}

-- ---- queues, devices, interrupts and targets by id

-- the facts of a device, where that is what is declared; None for all else
abbrev pub as_device : Option Declared → Option DeviceInfo
as_device (Some (declared.Device d)) = Some d
as_device _ = None

-- the facts of a queue, where that is what is declared; None for all else
abbrev pub as_queue : Option Declared → Option QueueInfo
as_queue (Some (declared.Queue q)) = Some q
as_queue _ = None

-- the facts of an interrupt, where that is what is declared; None for all else
abbrev pub as_interrupt : Option Declared → Option InterruptInfo
as_interrupt (Some (declared.Interrupt i)) = Some i
as_interrupt _ = None

-- the facts of an I/O target, where that is what is declared; None for all else
abbrev pub as_target : Option Declared → Option TargetInfo
as_target (Some (declared.Target t)) = Some t
as_target _ = None

-- what the plan says of the device with this id, None for an id that is no device's
abbrev pub device_of : Plan → ℕ → Option DeviceInfo
device_of plan id = as_device (declared_of plan id)

-- what the plan says of the queue with this id, None for an id that is no queue's
abbrev pub queue_of : Plan → ℕ → Option QueueInfo
queue_of plan id = as_queue (declared_of plan id)

-- what the plan says of the interrupt with this id, None for an id that is no interrupt's
abbrev pub interrupt_of : Plan → ℕ → Option InterruptInfo
interrupt_of plan id = as_interrupt (declared_of plan id)

-- what the plan says of the I/O target with this id, None for an id that is no target's
abbrev pub target_of : Plan → ℕ → Option TargetInfo
target_of plan id = as_target (declared_of plan id)

-- the ids of the driver object and of what is declared, after the id 0 that no object has
abbrev pub declared_ids : Plan → List ℕ
declared_ids plan = range_with_len 0 (suc (length plan.declared))

-- the ids of the devices, rising, which is the order of the text
abbrev pub devices_of : Plan → List ℕ
devices_of plan = filter (λ id. is_some (device_of plan id)) (declared_ids plan)

-- the ids of the I/O targets, rising, which is the order of the text
abbrev pub targets_of : Plan → List ℕ
targets_of plan = filter (λ id. is_some (target_of plan id)) (declared_ids plan)

-- whether a queue is one of this device
abbrev pub is_queue_of : ℕ → Option QueueInfo → Bool
is_queue_of device None = false
is_queue_of device (Some q) = q.device.0 == device

-- the ids of a device's queues, in the order of the text
abbrev pub queues_of : Plan → ℕ → List ℕ
queues_of plan device = filter (λ id. is_queue_of device (queue_of plan id)) (declared_ids plan)

-- whether an interrupt is one of this device
abbrev pub is_interrupt_of : ℕ → Option InterruptInfo → Bool
is_interrupt_of device None = false
is_interrupt_of device (Some i) = i.device.0 == device

-- the ids of a device's interrupts, in the order of the text
abbrev pub interrupts_of : Plan → ℕ → List ℕ
interrupts_of plan device = filter (λ id. is_interrupt_of device (interrupt_of plan id)) (declared_ids plan)

-- whether an I/O target is one of this device
abbrev pub is_target_of : ℕ → Option TargetInfo → Bool
is_target_of device None = false
is_target_of device (Some t) = t.device.0 == device

-- the id of queue q's device, 0 for an id that is no queue's
abbrev pub device_of_queue : Plan → ℕ → ℕ
device_of_queue plan q = unwrap_or (option_map (λ i. i.device.0) (queue_of plan q)) 0

-- whether queue q is power-managed, as each is unless the text says `power off`; false for an id that is no queue's
-- (KMDF)
abbrev pub is_managed : Plan → ℕ → Bool
is_managed plan q = unwrap_or (option_map (λ i. i.powered) (queue_of plan q)) false

-- the ids of a device's power-managed queues, in the order of the text
abbrev pub managed_queues : Plan → ℕ → List ℕ
managed_queues plan device = filter (is_managed plan) (queues_of plan device)

-- manual: the queue presents nothing by itself, and the driver retrieves from it (KMDF)
abbrev pub is_manual : DispatchKind → Bool
is_manual dispatch.Manual = true
is_manual _ = false

-- parallel: the queue presents requests while the driver holds fewer than its number (KMDF)
abbrev pub is_parallel : DispatchKind → Bool
is_parallel (dispatch.Parallel n) = true
is_parallel _ = false

-- whether queue q is manual; false for an id that is no queue's
abbrev pub is_manual_queue : Plan → ℕ → Bool
is_manual_queue plan q = unwrap_or (option_map (λ i. is_manual i.dispatch) (queue_of plan q)) false

-- whether queue q is parallel; false for an id that is no queue's
abbrev pub is_parallel_queue : Plan → ℕ → Bool
is_parallel_queue plan q = unwrap_or (option_map (λ i. is_parallel i.dispatch) (queue_of plan q)) false

-- ---- callbacks that are declared

-- the number of the script of callback c on what is declared, None where it doesn't declare c
abbrev pub script_on : Plan → Callback → Option Declared → Option ℕ
script_on plan c None = None
script_on plan c (Some d) = script_of plan c d

-- whether the declared object with this id declares callback c
abbrev pub declares : Plan → Callback → ℕ → Bool
declares plan c id = is_some (script_on plan c (declared_of plan id))

-- the handler that is for one type of requests alone: for reads, for writes, for control codes (KMDF)
abbrev pub typed_handler : RequestForm → Callback
typed_handler form.Read = callback.EvtIoRead
typed_handler form.Write = callback.EvtIoWrite
typed_handler form.Control = callback.EvtIoDeviceControl

-- the handler of queue q for requests of form f: that for the type, else that for all types, else None (KMDF)
abbrev pub handler_for : Plan → ℕ → RequestForm → Option Callback
handler_for plan q f =
    if declares plan (typed_handler f) q then Some (typed_handler f)
    else if declares plan callback.EvtIoDefault q then Some callback.EvtIoDefault
    else None

-- whether queue q has a handler for requests of form f, for the type or for all types
abbrev pub has_handler : Plan → ℕ → RequestForm → Bool
has_handler plan q f = is_some (handler_for plan q f)

-- whether a queue is its device's queue for requests of form f
abbrev pub serves : RequestForm → Option QueueInfo → Bool
serves f None = false
serves form.Read (Some q) = q.serves.read
serves form.Write (Some q) = q.serves.write
serves form.Control (Some q) = q.serves.control

-- whether a queue is its device's default queue, which takes what no other queue does (KMDF)
abbrev pub serves_rest : Option QueueInfo → Bool
serves_rest None = false
serves_rest (Some q) = q.serves.rest

-- one of two, the first if it is there
abbrev pub first_there : {T : Type 0} → Option T → Option T → Option T
first_there None other = other
first_there (Some x) other = Some x

-- the id of a device's queue for requests of form f, else of its default queue, else None (KMDF)
abbrev pub queue_for : Plan → ℕ → RequestForm → Option ℕ
queue_for plan device f =
    first_there (find (λ q. serves f (queue_of plan q)) (queues_of plan device)) (find (λ q. serves_rest (queue_of plan q)) (queues_of plan device))

-- ---- scopes and levels

-- the level of interrupt i, 0 for a passive one and for an id that is no interrupt's
abbrev pub interrupt_level : Plan → ℕ → ℕ
interrupt_level plan i = unwrap_or (option_map (λ x. x.level.0) (interrupt_of plan i)) 0

-- DISPATCH_LEVEL is 2, PASSIVE_LEVEL is 0
abbrev pub irql_of_level : ExecutionLevel → ℕ
irql_of_level level.Passive = 0
irql_of_level level.Dispatch = 2

-- own: the callbacks of queue q run at its effective execution level; 0 for an id that is no queue's
abbrev pub queue_level : Plan → ℕ → ℕ
queue_level plan q = unwrap_or (option_map (λ i. irql_of_level i.level) (queue_of plan q)) 0

-- the level at which a callback runs on object o: a fixed one, its interrupt's or its queue's
abbrev pub level_at : Plan → CallbackLevel → ℕ → ℕ
level_at plan (callback_level.Level n) o = n.0
level_at plan callback_level.OfInterrupt o = interrupt_level plan o
level_at plan callback_level.OfQueue o = queue_level plan o

-- the level at which callback c runs on object o, by the table of callbacks
abbrev pub callback_irql : Plan → Callback → ℕ → ℕ
callback_irql plan c o = level_at plan (row_of c).level o

-- the lock that the effective scope of queue q names: its device's, its own, or none (KMDF)
abbrev pub scope_lock_of_queue : ℕ → QueueInfo → Scope → Option LockRef
scope_lock_of_queue q i scope.PerDevice = Some (lock.DeviceScope i.device)
scope_lock_of_queue q i scope.PerQueue = Some (lock.QueueScope (record { 0 = q }))
scope_lock_of_queue q i scope.Unscoped = None

-- the lock of device d, where its effective scope is the device, else none
abbrev pub scope_lock_of_device : ℕ → Scope → Option LockRef
scope_lock_of_device d scope.PerDevice = Some (lock.DeviceScope (record { 0 = d }))
scope_lock_of_device d _ = None

-- the scope lock of the device or queue with this id; other objects have none
abbrev pub scope_lock : ℕ → Option Declared → Option LockRef
scope_lock id (Some (declared.Device d)) = scope_lock_of_device id d.scope
scope_lock id (Some (declared.Queue q)) = scope_lock_of_queue id q q.scope
scope_lock id _ = None

-- ---- classes

-- the kind of class c's objects; General for what is no class
abbrev pub kind_of_class : Plan → ℕ → Kind
kind_of_class plan c = unwrap_or (option_map class_kind (slice_get plan.classes c)) kind.General

-- the number of class c's name, 0 for what is no class
abbrev pub name_of_class : Plan → ℕ → ℕ
name_of_class plan c = unwrap_or (option_map class_name (slice_get plan.classes c)) 0

-- the parent that a class names, 0 where the call names it
abbrev pub named_parent : ClassInfo → ℕ
named_parent (class.Plain name k) = 0
named_parent (class.Deferred name k parent serialize period) = parent.0

-- the id of the parent that class c names, 0 where the call names it or c is no class
abbrev pub parent_of_class : Plan → ℕ → ℕ
parent_of_class plan c = unwrap_or (option_map named_parent (slice_get plan.classes c)) 0

-- the lock of a serialized object: the scope lock of the parent that its class names (KMDF)
abbrev pub serial_lock : Plan → Option ClassInfo → Option LockRef
serial_lock plan (Some (class.Deferred name k parent true period)) = scope_lock parent.0 (declared_of plan parent.0)
serial_lock plan _ = None

-- the period of a class's timers in ticks, 0 for none
abbrev pub class_period : ClassInfo → ℕ
class_period (class.Plain name k) = 0
class_period (class.Deferred name k parent serialize period) = period

-- the period of class c's timers in ticks, 0 for none and for what is no class
abbrev pub period_of : Plan → ℕ → ℕ
period_of plan c = unwrap_or (option_map class_period (slice_get plan.classes c)) 0

-- ---- agents: the Plug and Play manager is 0, then the apps, the devices, the targets (own)

-- how many agents a run has: the manager, and those of the plan
abbrev pub agent_count : Plan → ℕ
agent_count plan = 1 + length plan.agents

-- how many agents come before the devices
abbrev pub first_device_agent : Plan → ℕ
first_device_agent plan = 1 + app_count plan

-- the place of an id in a list, or the list's length
abbrev pub place_in : ℕ → List ℕ → ℕ
place_in id ids = unwrap_or (position (λ other. other == id) ids) (length ids)

-- the number of device d's agent
abbrev pub agent_of_device : Plan → ℕ → ℕ
agent_of_device plan d = first_device_agent plan + place_in d (devices_of plan)

-- the id of the device whose agent has number a, None where no device has it
abbrev pub device_of_agent : Plan → ℕ → Option ℕ
device_of_agent plan a =
    if nat_lt a (first_device_agent plan) then None
    else slice_get (devices_of plan) (a - first_device_agent plan)

-- the id of the I/O target whose agent has number a, None where no target has it
abbrev pub target_of_agent : Plan → ℕ → Option ℕ
target_of_agent plan a =
    if nat_lt a (first_device_agent plan + length (devices_of plan)) then None
    else slice_get (targets_of plan) (a - (first_device_agent plan + length (devices_of plan)))

-- whether agent a is an app
abbrev pub is_app : Plan → ℕ → Bool
is_app plan a = nat_lt 0 a && nat_lt a (first_device_agent plan)

-- the id of the device that has register k, 0 for what is no register
abbrev pub device_of_register : Plan → ℕ → ℕ
device_of_register plan k = unwrap_or (option_map (λ r. r.device.0) (slice_get plan.registers k)) 0
