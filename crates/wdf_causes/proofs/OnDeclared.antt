-- What is looked for among the queues and the interrupts of a device, one id after the other from 1 on.
use Rattle.std.proofs.Common.{◌≡◌, ℕ, suc, ◌+◌, ◌-◌, ◌<◌, ◌≤◌, Bool, true, false, ◌&&◌, List, Option, None, filter, fold, length, refl, sym, ap, ◌∙◌, arith}
use Rattle.std.specs.List.{flat_map, list_any, range_with_len}
use Rattle.wdf_base.specs.declared.plan.Plan.{Plan}
use Rattle.wdf_base.specs.declared.call.Callback.TheVariants as callback
use Rattle.wdf_base.specs.declared.event.Stage.TheVariants as stage
use Rattle.wdf_model.specs.Tables.{contains, least, lesser}
use Rattle.wdf_model.specs.Plans.{declared_ids, interrupt_of, is_interrupt_of, is_managed, is_queue_of, managed_queues, queue_level, queue_of}
use Rattle.wdf_model.specs.State.{State, declared_in}
use Rattle.wdf_model.specs.parts.Cpus.{all_frames, is_on}
use Rattle.wdf_model.specs.parts.Locks.{scope_of}
use Rattle.wdf_model.specs.parts.Deferred.Dpcs.{dpcs_of}
use Rattle.wdf_model.specs.rules.Waits.{has_dpc_of, holders_of, no_cpu, queues_to_resume, resume_cpus, scope_holders, stage_frames}
use Rattle.wdf_starts.proofs.Passing.{filter_twice}
use Rattle.wdf_maps.specs.Least.{lesser_if}
use Rattle.wdf_causes.specs.Keepers.{frames_on_queue, is_managed_at, is_to_resume, resume_holders, some_resume}
use Rattle.wdf_causes.proofs.Ranges.{any_filtered, any_next, any_stops, any_ends}
use Rattle.wdf_causes.proofs.Searches.{flat_map_filtered, least_next, least_ends}

-- the ids after this many
ids_after : Plan → ℕ → List ℕ
ids_after plan k = range_with_len (k + 1) (suc (length plan.declared) - (k + 1))

within : (plan : Plan) (k : ℕ) → k < length plan.declared → k + 1 < suc (length plan.declared)
within plan k h = omega arith

past : (plan : Plan) (k : ℕ) → length plan.declared ≤ k → suc (length plan.declared) ≤ k + 1
past plan k h = omega arith

from_one : (plan : Plan) → range_with_len (0 + 1) (suc (length plan.declared) - (0 + 1)) ≡ range_with_len (0 + 1) (length plan.declared)
from_one plan = let e : suc (length plan.declared) - (0 + 1) ≡ length plan.declared = omega arith in rw e refl

-- ---- whether a DPC of a device is in a processor's list

module _ {A : Type 0} (plan : Plan) (S : State A) (d cpu : ℕ) where
  queued : ℕ → Bool
  queued i = is_interrupt_of d (interrupt_of plan i) && contains i (dpcs_of S.dpcs cpu)

  -- whether one of those after this many is
  pub queued_from : ℕ → Bool
  queued_from k = list_any queued (range_with_len (k + 1) (suc (length plan.declared) - (k + 1)))

  pub queued_at_first : queued_from 0 ≡ has_dpc_of plan S d cpu
  unfolding queued_from queued
  queued_at_first = ap (list_any queued) (from_one plan) ∙ sym (any_filtered (λ i. is_interrupt_of d (interrupt_of plan i)) (λ i. contains i (dpcs_of S.dpcs cpu)) (declared_ids plan))

  pub queued_after : (k : ℕ) → k < length plan.declared → (is_interrupt_of d (interrupt_of plan (k + 1)) && contains (k + 1) (dpcs_of S.dpcs cpu)) ≡ false → queued_from (k + 1) ≡ queued_from k
  unfolding queued_from queued
  queued_after k h e = any_next queued (k + 1) (suc (length plan.declared)) (within plan k h) e

  pub queued_here : (k : ℕ) → k < length plan.declared → (is_interrupt_of d (interrupt_of plan (k + 1)) && contains (k + 1) (dpcs_of S.dpcs cpu)) ≡ true → true ≡ queued_from k
  unfolding queued_from queued
  queued_here k h e = any_stops queued (k + 1) (suc (length plan.declared)) (within plan k h) e

  pub queued_nowhere : (k : ℕ) → length plan.declared ≤ k → false ≡ queued_from k
  unfolding queued_from
  queued_nowhere k h = any_ends queued (k + 1) (suc (length plan.declared)) (past plan k h)

-- ---- the queues of a device by one test

managed_by_one : (plan : Plan) (d : ℕ) → managed_queues plan d ≡ filter (is_managed_at plan d) (declared_ids plan)
managed_by_one plan d = filter_twice (λ q. is_queue_of d (queue_of plan q)) (is_managed plan) (declared_ids plan)

resumed_by_one : {A : Type 0} (plan : Plan) (S : State A) (d : ℕ) → queues_to_resume plan S d ≡ filter (is_to_resume plan S d) (declared_ids plan)
resumed_by_one plan S d = ap (filter (some_resume plan S)) (managed_by_one plan d) ∙ filter_twice (is_managed_at plan d) (some_resume plan S) (declared_ids plan)

-- ---- the queues of a device with a resume that is due, and its power-managed queues

module _ {A : Type 0} (plan : Plan) (S : State A) (d : ℕ) where
  without_cpu : ℕ → Bool
  without_cpu q = is_to_resume plan S d q && no_cpu plan S (queue_level plan q)

  -- whether no processor is left for a resume from one of those after this many
  pub left_from : ℕ → Bool
  left_from k = list_any without_cpu (range_with_len (k + 1) (suc (length plan.declared) - (k + 1)))

  pub left_at_first : left_from 0 ≡ resume_cpus plan S d
  unfolding left_from without_cpu
  left_at_first =
      ap (list_any without_cpu) (from_one plan)
      ∙ sym (ap (list_any (λ q. no_cpu plan S (queue_level plan q))) (resumed_by_one plan S d) ∙ any_filtered (is_to_resume plan S d) (λ q. no_cpu plan S (queue_level plan q)) (declared_ids plan))

  pub left_after : (k : ℕ) → k < length plan.declared → (is_to_resume plan S d (k + 1) && no_cpu plan S (queue_level plan (k + 1))) ≡ false → left_from (k + 1) ≡ left_from k
  unfolding left_from without_cpu
  left_after k h e = any_next without_cpu (k + 1) (suc (length plan.declared)) (within plan k h) e

  pub left_here : (k : ℕ) → k < length plan.declared → (is_to_resume plan S d (k + 1) && no_cpu plan S (queue_level plan (k + 1))) ≡ true → true ≡ left_from k
  unfolding left_from without_cpu
  left_here k h e = any_stops without_cpu (k + 1) (suc (length plan.declared)) (within plan k h) e

  pub left_nowhere : (k : ℕ) → length plan.declared ≤ k → false ≡ left_from k
  unfolding left_from
  left_nowhere k h = any_ends without_cpu (k + 1) (suc (length plan.declared)) (past plan k h)

  -- the least of what was found and of those that hold a scope lock of those after this many
  pub holders_from : ℕ → Option ℕ → Option ℕ
  holders_from k found = fold lesser found (flat_map (resume_holders plan S d) (range_with_len (k + 1) (suc (length plan.declared) - (k + 1))))

  pub holders_at_first : holders_from 0 None ≡ least (scope_holders plan S (queues_to_resume plan S d))
  unfolding holders_from
  holders_at_first =
      ap (λ ids. least (flat_map (resume_holders plan S d) ids)) (from_one plan)
      ∙ ap least (sym (ap (scope_holders plan S) (resumed_by_one plan S d)
      ∙ flat_map_filtered (is_to_resume plan S d) (λ q. holders_of S (scope_of plan callback.EvtIoResume q (declared_in plan S q))) (declared_ids plan)))

  pub holders_after : (k : ℕ) (found : Option ℕ) → k < length plan.declared → holders_from (k + 1) (lesser_if found (least (resume_holders plan S d (k + 1)))) ≡ holders_from k found
  unfolding holders_from
  holders_after k found h = least_next (resume_holders plan S d) found (k + 1) (suc (length plan.declared)) (within plan k h)

  pub holders_at_last : (k : ℕ) (found : Option ℕ) → length plan.declared ≤ k → found ≡ holders_from k found
  unfolding holders_from
  holders_at_last k found h = least_ends (resume_holders plan S d) found (k + 1) (suc (length plan.declared)) (past plan k h)

  -- the least of what was found and of those that run on one of those after this many
  pub running_from : ℕ → Option ℕ → Option ℕ
  running_from k found = fold lesser found (flat_map (frames_on_queue plan S d) (range_with_len (k + 1) (suc (length plan.declared) - (k + 1))))

  pub running_at_first : running_from 0 None ≡ least (stage_frames plan S d stage.Settled None)
  unfolding running_from
  running_at_first =
      ap (λ ids. least (flat_map (frames_on_queue plan S d) ids)) (from_one plan)
      ∙ ap least (sym (ap (flat_map (λ q. filter (is_on S.cpus q) (all_frames S.cpus))) (managed_by_one plan d)
      ∙ flat_map_filtered (is_managed_at plan d) (λ q. filter (is_on S.cpus q) (all_frames S.cpus)) (declared_ids plan)))

  pub running_after : (k : ℕ) (found : Option ℕ) → k < length plan.declared → running_from (k + 1) (lesser_if found (least (frames_on_queue plan S d (k + 1)))) ≡ running_from k found
  unfolding running_from
  running_after k found h = least_next (frames_on_queue plan S d) found (k + 1) (suc (length plan.declared)) (within plan k h)

  pub running_at_last : (k : ℕ) (found : Option ℕ) → length plan.declared ≤ k → found ≡ running_from k found
  unfolding running_from
  running_at_last k found h = least_ends (frames_on_queue plan S d) found (k + 1) (suc (length plan.declared)) (past plan k h)
