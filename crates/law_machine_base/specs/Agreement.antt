-- What the parts of a state keep of one another, as tests. A part counts or notes what others say in
-- full: how many requests are held from a queue, the levels of a frame's locks, which step's callback
-- runs. Each test says that it agrees with what it counts or notes; every state of a run passes them.
use Rattle.std.specs.Prelude.{if◌then◌else◌, ℕ, max, Bool, true, false, ◌==◌, not, ◌&&◌, List, [], ◌∷◌, ◌++◌, length, map, filter, fold, count_by, Option, Some, None}
use Rattle.std.specs.Bool.{beq}
use Rattle.std.specs.List.{flat_map, list_all, list_any, range_with_len}
use Rattle.wdf_base.specs.declared.plan.Plan.{Plan}
use Rattle.wdf_base.specs.declared.object.Kind.TheVariants as kind
use Rattle.wdf_base.specs.declared.object.LockRef.{LockRef}
use Rattle.wdf_base.specs.declared.object.LockRef.TheVariants as lock
use Rattle.wdf_base.specs.declared.rank.Rank.{Rank}
use Rattle.wdf_base.specs.declared.rank.Rank.TheVariants as rank
use Rattle.wdf_base.specs.declared.frame.Frame.{Frame}
use Rattle.wdf_base.specs.declared.frame.Pending.{Pending}
use Rattle.wdf_base.specs.Callbacks.{row_of}
use Rattle.wdf_base.specs.Places.{is_queued_in, is_sent_to}
use Rattle.wdf_base.specs.Calls.{is_acquire}
use Rattle.wdf_model.specs.declared.entries.Held.{Held}
use Rattle.wdf_model.specs.Tables.{contains, ids_of}
use Rattle.wdf_model.specs.Plans.{declared_ids, devices_of, is_managed, managed_queues}
use Rattle.wdf_model.specs.parts.Cpus.{all_frames, frame_of, irql, running, top}
use Rattle.wdf_model.specs.parts.Requests.{origin_of, place_of}
use Rattle.wdf_model.specs.parts.Queues.{held_count, waiting_in}
use Rattle.wdf_model.specs.parts.Power.{acknowledged, holding_of, unsettled}
use Rattle.wdf_model.specs.parts.Pnp.{is_running_step}
use Rattle.wdf_model.specs.parts.Targets.{the_target}
use Rattle.wdf_model.specs.State.{State, held_from, is_with_driver, object_in}
use Rattle.wdf_model.specs.rules.Calls.{lock_level}

-- ---- the level of a processor, by the locks that its top frame holds or spins for; 0 where no frame is (KMDF)

-- the level of lock l: an object's lock has that of its object, a scope lock 0 (KMDF)
abbrev pub level_of_lock : {A : Type 0} → Plan → State A → LockRef → ℕ
level_of_lock plan S (lock.Object o) = lock_level plan S o.0
level_of_lock plan S _ = 0

-- the levels of the locks that frame f holds, by calls or by its start
abbrev pub levels_held : {A : Type 0} → Plan → State A → ℕ → List ℕ
levels_held plan S f = map (λ (h : Held). level_of_lock plan S h.lock) (filter (λ h. h.frame.0 == f) S.locks.held)

-- the level of the lock that a pending call asks for, as a list; the empty list where it asks for none
abbrev pub level_awaited : {A : Type 0} → Plan → State A → Option Pending → List ℕ
level_awaited plan S None = []
level_awaited plan S (Some p) = if is_acquire p.call.kind then lock_level plan S (object_in p.call.a) ∷ [] else []

-- the level of a processor whose top frame is f: the greatest of the callback's and of those of its locks; 0 where
-- it is empty (KMDF)
abbrev pub level_by_locks : {A : Type 0} → Plan → State A → Option ℕ → ℕ
level_by_locks plan S None = 0
level_by_locks plan S (Some f) =
    fold max (running S.cpus f).level.0 (levels_held plan S f ++ level_awaited plan S (frame_of S.cpus f).pending)

-- each processor has that level
abbrev pub levels_agree : {A : Type 0} → Plan → State A → Bool
levels_agree plan S =
    list_all (λ cpu. irql S.cpus cpu == level_by_locks plan S (top S.cpus cpu)) (range_with_len 0 plan.cpus)

-- ---- what is held from the queues, by the requests (KMDF)

-- each queue counts as many held requests as the driver holds from it
abbrev pub held_agrees : {A : Type 0} → Plan → State A → Bool
held_agrees plan S = list_all (λ q. held_count S.queues q == length (held_from S q)) (declared_ids plan)

-- queue q if it is power-managed; 0 for any other, and where there is none
abbrev pub managed_origin : Plan → Option ℕ → ℕ
managed_origin plan None = 0
managed_origin plan (Some q) = if is_managed plan q then q else 0

-- the power-managed queue from which the driver holds request r; 0 where it holds it from none
abbrev pub holding_queue : {A : Type 0} → Plan → State A → ℕ → ℕ
holding_queue plan S r = if is_with_driver S r then managed_origin plan (origin_of S.requests r) else 0

-- power notes each request as held from just that queue
abbrev pub holdings_agree : {A : Type 0} → Plan → State A → Bool
holdings_agree plan S = list_all (λ r. (holding_of S.power r).queue.0 == holding_queue plan S r) (ids_of S.tree.nodes)

-- the requests that are held from the power-managed queues of device d and aren't acknowledged (own, after KMDF)
abbrev pub unsettled_of : {A : Type 0} → Plan → State A → ℕ → List ℕ
unsettled_of plan S d = filter (λ r. not (acknowledged S.power r)) (flat_map (held_from S) (managed_queues plan d))

-- power lists just these for each device
abbrev pub unsettled_agrees : {A : Type 0} → Plan → State A → Bool
unsettled_agrees plan S =
    list_all (λ d. length (unsettled S.power d) == length (unsettled_of plan S d) && list_all (λ r. contains r (unsettled S.power d)) (unsettled_of plan S d)) (devices_of plan)

-- ---- queues, targets and steps

-- a request is Queued exactly where it waits in that queue, once
abbrev pub lines_agree : {A : Type 0} → Plan → State A → Bool
lines_agree plan S =
    list_all (λ q. list_all (λ r. count_by (λ x. x == r) (waiting_in S.queues q) == (if is_queued_in q (place_of S.requests r) then 1 else 0)) (ids_of S.tree.nodes)) (declared_ids plan)

-- a request is Sent exactly where its target has it
abbrev pub targets_agree : {A : Type 0} → Plan → State A → Bool
targets_agree plan S =
    list_all (λ t. list_all (λ r. beq (list_any (λ s. s.request.0 == r) (the_target S.targets t).sent) (is_sent_to t (place_of S.requests r))) (ids_of S.tree.nodes)) (declared_ids plan)

-- the rank of the callbacks that are steps of Plug and Play and power
abbrev pub is_sequence : Rank → Bool
is_sequence rank.Sequence = true
is_sequence _ = false

-- a frame runs a step of device d: a device callback, or a callback of one of its interrupts that is a step
abbrev pub is_step_frame : ℕ → Frame → Bool
is_step_frame d frame = is_sequence (row_of frame.callback).rank && frame.device.id.0 == d

-- a step's callback is noted for a device exactly where its frame is there, and there is at most one
abbrev pub steps_agree : {A : Type 0} → Plan → State A → Bool
steps_agree plan S =
    list_all (λ d. count_by (λ f. is_step_frame d (frame_of S.cpus f)) (all_frames S.cpus) == (if is_running_step S.pnp d then 1 else 0)) (devices_of plan)

-- all seven tests
abbrev pub agrees : {A : Type 0} → Plan → State A → Bool
agrees plan S =
    levels_agree plan S && held_agrees plan S && holdings_agree plan S && unsettled_agrees plan S && lines_agree plan S && targets_agree plan S
    && steps_agree plan S
