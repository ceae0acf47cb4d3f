-- The pieces of the state that are parts of it stay where no deed of an event changes them.
use Rattle.std.proofs.Common.{◌≡◌, ℕ, Bool, true, false, List}
use Rattle.std.specs.List.{flat_map}
use Rattle.wdf_base.specs.Meaning.{Meaning}
use Rattle.wdf_base.specs.declared.plan.Plan.{Plan}
use Rattle.wdf_base.specs.declared.event.Event.{Event}
use Rattle.wdf_model.specs.State.{State}
use Rattle.wdf_model.specs.declared.deed.Deed.{Deed}
use Rattle.wdf_model.specs.rules.Deeds.{counted, do_deeds}
use Rattle.law_touched.specs.Touched.{Piece, ObjectTree, Processor, TopFrame, TopWait, RunningObjects, WaitedObjects, ParkedFrames, HeldLocks, RequestTable, QueueLines, QueueControl, DevicePower, DeviceSteps, EnabledInterrupts, DpcLists, WorkQueue, TimerQueue, TargetTable, AgentStates, ClockTick, changed_by, has_piece}
use Rattle.law_touched.proofs.Fields.{all_by, clock_by, control_by, dpcs_by, interrupts_by, locks_by, pnp_by, power_by, queues_by, requests_by, targets_by, timers_by, tree_by, work_items_by}
use Rattle.law_touched.proofs.Same.{Same}

-- a piece that is a part of the state, beside the processors and the agents
abbrev pub is_part : Piece → Bool
is_part (Processor cpu) = false
is_part (TopFrame cpu) = false
is_part (TopWait cpu) = false
is_part RunningObjects = false
is_part WaitedObjects = false
is_part ParkedFrames = false
is_part AgentStates = false
is_part _ = true

module _ {A : Type 0} (plan : Plan) (m : Meaning A) (cpu : ℕ) (e : Event) (ds : List Deed) (S : State A) where
  pub parts_stay : (p : Piece) → is_part p ≡ true → has_piece p (flat_map (changed_by cpu) ds) ≡ false → Same p S (counted m e (do_deeds plan ds S))
  parts_stay ObjectTree is h = all_by plan cpu (λ (U : State A). U.tree) ObjectTree (tree_by plan cpu) ds S h
  parts_stay HeldLocks is h = all_by plan cpu (λ (U : State A). U.locks) HeldLocks (locks_by plan cpu) ds S h
  parts_stay RequestTable is h = all_by plan cpu (λ (U : State A). U.requests) RequestTable (requests_by plan cpu) ds S h
  parts_stay QueueLines is h = all_by plan cpu (λ (U : State A). U.queues) QueueLines (queues_by plan cpu) ds S h
  parts_stay QueueControl is h = all_by plan cpu (λ (U : State A). U.control) QueueControl (control_by plan cpu) ds S h
  parts_stay DevicePower is h = all_by plan cpu (λ (U : State A). U.power) DevicePower (power_by plan cpu) ds S h
  parts_stay DeviceSteps is h = all_by plan cpu (λ (U : State A). U.pnp) DeviceSteps (pnp_by plan cpu) ds S h
  parts_stay EnabledInterrupts is h = all_by plan cpu (λ (U : State A). U.interrupts) EnabledInterrupts (interrupts_by plan cpu) ds S h
  parts_stay DpcLists is h = all_by plan cpu (λ (U : State A). U.dpcs) DpcLists (dpcs_by plan cpu) ds S h
  parts_stay WorkQueue is h = all_by plan cpu (λ (U : State A). U.work_items) WorkQueue (work_items_by plan cpu) ds S h
  parts_stay TimerQueue is h = all_by plan cpu (λ (U : State A). U.timers) TimerQueue (timers_by plan cpu) ds S h
  parts_stay TargetTable is h = all_by plan cpu (λ (U : State A). U.targets) TargetTable (targets_by plan cpu) ds S h
  parts_stay ClockTick is h = all_by plan cpu (λ (U : State A). U.clock) ClockTick (clock_by plan cpu) ds S h
  parts_stay _ is h = absurd (let z : ⊥ = cc in z)
