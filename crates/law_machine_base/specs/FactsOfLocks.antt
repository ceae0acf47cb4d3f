-- What a reader expects of the locks of callbacks: the lock of each under each scope, on one device with
-- a queue, an interrupt and objects of four classes.
use Rattle.std.specs.Prelude.{ℕ, true, false, List, [], ◌∷◌, ◌++◌, map, replicate, Option, Some, None}
use Rattle.wdf_base.specs.declared.plan.Plan.{Plan}
use Rattle.wdf_base.specs.declared.object.LockRef.{LockRef}
use Rattle.wdf_base.specs.declared.object.LockRef.TheVariants as lock
use Rattle.wdf_base.specs.declared.call.Callback.{Callback}
use Rattle.wdf_base.specs.declared.call.Callback.TheVariants as callback
use Rattle.wdf_base.specs.declared.declared.Declared.TheVariants as declared
use Rattle.wdf_base.specs.declared.declared.ClassInfo.TheVariants as class
use Rattle.wdf_base.specs.declared.declared.DeferredKind.TheVariants as deferred
use Rattle.wdf_base.specs.declared.declared.DispatchKind.TheVariants as dispatch
use Rattle.wdf_base.specs.declared.declared.Scope.{Scope}
use Rattle.wdf_base.specs.declared.declared.Scope.TheVariants as scope
use Rattle.wdf_base.specs.declared.declared.ExecutionLevel.TheVariants as level
use Rattle.wdf_base.specs.Plan.{declared_of}
use Rattle.wdf_model.specs.parts.Locks.{lock_of_callback}
use Rattle.wdf_model.specs.parts.Pnp.{DEVICE_CALLBACKS}

-- the driver object 1, the device 2, its queue 3 and its interrupt 4, under one scope. The classes 0 to 3 are
-- work items. Class 0 is serialized under the queue and class 1 under the device. Class 2 is under the queue
-- and class 3 under the device, and they aren't serialized.
abbrev pub plan_under : Scope → Plan
plan_under s = record {
  cpus = 1;
  limit = 100;
  objects = 16;
  names = [];
  declared = declared.Driver
      ∷ declared.Device (record { name = 2; working = true; scope = s; level = level.Passive })
      ∷ declared.Queue (record { name = 3; device = record { 0 = 2 }; dispatch = dispatch.Sequential; serves = record { rest = true; read = false; write = false; control = false }; powered = true; zero = false; scope = s; level = level.Passive })
      ∷ declared.Interrupt (record { name = 4; device = record { 0 = 2 }; level = record { 0 = 5 } })
      ∷ [];
  classes = class.Deferred 5 deferred.WorkItem (record { 0 = 3 }) true 0
      ∷ class.Deferred 6 deferred.WorkItem (record { 0 = 2 }) true 0
      ∷ class.Deferred 7 deferred.WorkItem (record { 0 = 3 }) false 0
      ∷ class.Deferred 8 deferred.WorkItem (record { 0 = 2 }) false 0
      ∷ [];
  registers = [];
  whens = [];
  pnp = [];
  agents = [];
  exprs = [];
  scripts = [];
  picks = [];
}

-- the callbacks of a queue
abbrev pub OF_QUEUE : List Callback
OF_QUEUE =
    callback.EvtRequestCancel ∷ callback.EvtIoCanceledOnQueue ∷ callback.EvtIoStop ∷ callback.EvtIoResume ∷ callback.EvtIoQueueState
    ∷ callback.EvtIoRead ∷ callback.EvtIoWrite ∷ callback.EvtIoDeviceControl ∷ callback.EvtIoDefault ∷ []

-- the functions of deferred objects
abbrev pub OF_DEFERRED : List Callback
OF_DEFERRED = callback.EvtDpcFunc ∷ callback.EvtTimerFunc ∷ callback.EvtWorkItem ∷ []

-- those of an interrupt that run under its lock
abbrev pub OF_INTERRUPT : List Callback
OF_INTERRUPT = callback.EvtInterruptIsr ∷ callback.EvtInterruptEnable ∷ callback.EvtInterruptDisable ∷ []

-- the lock of each of these callbacks on the declared object o, under scope s
abbrev pub locks_on : Scope → ℕ → List Callback → List (Option LockRef)
locks_on s o cs = map (λ c. lock_of_callback (plan_under s) c o (declared_of (plan_under s) o)) cs

-- the locks of the functions of deferred objects, on an object of class k under scope s; its id, 9, doesn't matter
abbrev pub locks_of_class : Scope → ℕ → List (Option LockRef)
locks_of_class s k = map (λ c. lock_of_callback (plan_under s) c 9 (Some (declared.OfClass k))) OF_DEFERRED

-- the locks under scope s, as the definitions give them, in six lists
abbrev pub locks_under : Scope → List (List (Option LockRef))
locks_under s =
    locks_on s 3 OF_QUEUE
    ∷ map (λ k. lock_of_callback (plan_under s) callback.EvtWorkItem 9 (Some (declared.OfClass k))) (0 ∷ 1 ∷ 2 ∷ 3 ∷ [])
    ∷ locks_of_class s 0
    ∷ locks_on s 4 OF_INTERRUPT
    ∷ locks_on s 4 (callback.EvtInterruptDpc ∷ [])
    ∷ locks_on s 2 (DEVICE_CALLBACKS ++ callback.EvtCleanupCallback ∷ callback.EvtDestroyCallback ∷ callback.EvtRequestCompletion ∷ [])
    ∷ []

-- the lock of a queue's callbacks: its device's, its own, or none (KMDF)
abbrev pub lock_by_scope : Scope → Option LockRef
lock_by_scope scope.PerDevice = Some (lock.DeviceScope (record { 0 = 2 }))
lock_by_scope scope.PerQueue = Some (lock.QueueScope (record { 0 = 3 }))
lock_by_scope scope.Unscoped = None

-- the lock that serializes what has the device as parent: the device's, where that is the scope (KMDF)
abbrev pub device_lock_by_scope : Scope → Option LockRef
device_lock_by_scope scope.PerDevice = Some (lock.DeviceScope (record { 0 = 2 }))
device_lock_by_scope _ = None

-- the same six lists as a reader expects them: queue callbacks and serialized work take the scope's lock, an
-- interrupt's callbacks its own, but for EvtInterruptDpc, and the others none (KMDF)
abbrev pub locks_expected : Scope → List (List (Option LockRef))
locks_expected s =
    replicate 9 (lock_by_scope s)
    ∷ (lock_by_scope s ∷ device_lock_by_scope s ∷ None ∷ None ∷ [])
    ∷ replicate 3 (lock_by_scope s)
    ∷ replicate 3 (Some (lock.Object (record { 0 = 4 })))
    ∷ (None ∷ [])
    ∷ replicate 17 None
    ∷ []
