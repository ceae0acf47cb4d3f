-- The line of a device at `quiet` or at a callback always has a cause.
use Rattle.std.proofs.Common.{◌≡◌, inl, inr, ℕ, ◌+◌, ◌==◌, ◌<◌, true, false, not, ◌&&◌, ◌||◌, nat_lt, List, [], ◌∷◌, Option, Some, None, length, refl, ap, ◌∙◌, arith}
use Rattle.std.specs.Prelude.{option_and_then}
use Rattle.std.specs.List.{flat_map, list_all, list_any}
use Rattle.std.proofs.lemmas.Bool.{cases_Bool, eqb-true}
use Rattle.wdf_base.specs.Meaning.{Meaning}
use Rattle.wdf_base.specs.Callbacks.{row_of}
use Rattle.wdf_base.specs.declared.plan.Plan.{Plan}
use Rattle.wdf_base.specs.declared.ids.Handle.{Handle}
use Rattle.wdf_base.specs.declared.call.Callback.{Callback}
use Rattle.wdf_base.specs.declared.call.Callback.TheVariants as callback
use Rattle.wdf_base.specs.declared.event.Event.{Event}
use Rattle.wdf_base.specs.declared.event.Stage.TheVariants as stage
use Rattle.wdf_base.specs.declared.event.Step.TheVariants as step
use Rattle.wdf_base.specs.declared.rank.Rank.TheVariants as rank
use Rattle.wdf_base.specs.declared.wait.Cause.TheVariants as cause
use Rattle.wdf_base.specs.Same.{same_callback, same_handle, same_option}
use Rattle.wdf_base.specs.Lives.{is_live}
use Rattle.wdf_model.specs.Ids.{frame_id}
use Rattle.wdf_model.specs.declared.enums.Group.TheVariants as group
use Rattle.wdf_model.specs.Tables.{contains}
use Rattle.wdf_model.specs.Plans.{callback_irql, interrupts_of}
use Rattle.wdf_model.specs.parts.Tree.{life_of, nearest_device}
use Rattle.wdf_model.specs.parts.Cpus.{all_frames, frame_of, is_running}
use Rattle.wdf_model.specs.parts.Locks.{is_free_if_any, lock_of_callback}
use Rattle.wdf_model.specs.parts.Pnp.{follows_queues_up, is_running_step, next_step}
use Rattle.wdf_model.specs.parts.Deferred.Dpcs.{dpcs_of, is_dpc_queued}
use Rattle.law_machine_base.specs.Agreement.{is_sequence}
use Rattle.wdf_model.specs.State.{State, declared_in, declares_in, handle_in, is_proper}
use Rattle.wdf_model.specs.rules.Groups.{candidates, declared_end, groups_of_rank, RANKS, start_of_step, starts}
use Rattle.wdf_model.specs.rules.Starts.{interrupt_of_step, is_quiet, is_ready_for, level_fits, life_fits, may_start, rank_ready, resumes_over, step_of, step_ready}
use Rattle.wdf_model.specs.rules.Steps.{may}
use Rattle.wdf_model.specs.rules.Waits.{all_cpus, by_frame, by_request, cause_if, cpus_with_dpc, frames_where, has_dpc_of, head_lock, holders_of, no_cpu, object_of_step, quiet_frames, runs_step, stage_cpus, stage_frames, stage_requests, step_cause}
use Rattle.wdf_model.proofs.Tests.{all_four, both, both_left, both_right, first, itself, not_false}
use Rattle.wdf_model.proofs.Sames.{callback_decides, handle_decides}
use Rattle.law_stuck_named_if.specs.Starts.{dpc_may_run, has_callback, step_may_run}
use Rattle.law_stuck_causes.proofs.Members.{Has, has_flat, has_kept, has_range}
use Rattle.law_stuck_causes.proofs.Endings.{AtRest, may_not}
use Rattle.law_stuck_causes.proofs.Gives.{any_has}
use Rattle.law_stuck_causes.proofs.Stages.{each_one, handle_itself, none_of, stage_comes, stepping}
use Rattle.law_stuck_causes.proofs.Needs.{below_cpus, cpu_group, free_one, front_none, no_count, none_first, none_if, none_least, placed_at}
use Rattle.law_stuck_causes.proofs.Conjuncts.{five}
use Rattle.law_stuck_named_if.proofs.Dpcs.{free_by_none, head_waits, listed_at}
use Rattle.law_machine_counts.proofs.StepEvents.{sequence_is}

-- ---- lists

-- what is gathered from an item of a list, where nothing is gathered
pub none_gathered : {T : Type 0} (f : ℕ → List T) (x : ℕ) (xs : List ℕ) → Has x xs → flat_map f xs ≡ [] → f x ≡ []
none_gathered f x [] h e = absurd h
none_gathered f x (y ∷ ys) (inl s) e = ap f s ∙ (front_none (f y) (flat_map f ys) e).0
none_gathered f x (y ∷ ys) (inr h) e = none_gathered f x ys h (front_none (f y) (flat_map f ys) e).1

-- ---- `quiet`

-- no DPC of the device is queued
none_queued : {A : Type 0} (plan : Plan) (m : Meaning A) (S : State A) → AtRest plan m S true → length S.dpcs.lists ≡ plan.cpus → ((cpu : ℕ) → dpc_may_run plan S cpu ≡ true) → (d : ℕ)
    → flat_map (λ cpu. holders_of S (head_lock plan S cpu)) (cpus_with_dpc plan S d) ≡ [] → list_any (λ cpu. not (level_fits S cpu 2)) (cpus_with_dpc plan S d) ≡ false
    → (i : ℕ) → Has i (interrupts_of plan d) → not (is_dpc_queued S.dpcs i) ≡ true
none_queued plan m S rest size may_be d unheld fits i its = elim (cases_Bool (is_dpc_queued S.dpcs i)) [
  | inl q ↦ absurd (
      let at = listed_at (contains i) S.dpcs.lists q in
      let low : at.place < length S.dpcs.lists = at.low in
      let cpu : ℕ = at.place in
      let within : cpu < plan.cpus = omega arith in
      let it : has_dpc_of plan S d cpu ≡ true = any_has (λ x. contains x (dpcs_of S.dpcs cpu)) i (interrupts_of plan d) its at.passes in
      let there : Has cpu (cpus_with_dpc plan S d) = has_kept (has_dpc_of plan S d) cpu (all_cpus plan) (has_range cpu 0 plan.cpus (omega arith) (omega arith)) it in
      head_waits plan m S rest cpu i within at.passes (may_be cpu)
      (free_by_none S (head_lock plan S cpu) (none_gathered (λ x. holders_of S (head_lock plan S x)) cpu (cpus_with_dpc plan S d) there unheld))
      (not_false (level_fits S cpu 2) (none_of (λ x. not (level_fits S x 2)) (cpus_with_dpc plan S d) fits cpu there)))
  | inr e ↦ ap not e
]

pub quiet_waits : {A : Type 0} (plan : Plan) (m : Meaning A) (S : State A) → AtRest plan m S true → length S.dpcs.lists ≡ plan.cpus → ((cpu : ℕ) → dpc_may_run plan S cpu ≡ true) → (d : ℕ) (i : Option Handle) → d < declared_end plan
    → next_step S.pnp d ≡ Some (step.Pass stage.Quiet i) → not (is_running_step S.pnp d) ≡ true → not (follows_queues_up S.pnp d) ≡ true → step_cause plan S d (step.Pass stage.Quiet i) ≡ None → ⊥
quiet_waits plan m S rest size may_be d i low next calm early h =
    let one = none_first (by_request plan S (stage_requests plan S d stage.Quiet)) (by_frame (stage_frames plan S d stage.Quiet i) ∷ cause_if (stage_cpus plan S d stage.Quiet) cause.NoCpu ∷ []) h in
    let two = none_first (by_frame (stage_frames plan S d stage.Quiet i)) (cause_if (stage_cpus plan S d stage.Quiet) cause.NoCpu ∷ []) one.1 in
    let last = none_first (cause_if (stage_cpus plan S d stage.Quiet) cause.NoCpu) [] two.1 in
    let fs : quiet_frames plan S d ≡ [] = none_least (λ f. cause.ByFrame (frame_id f)) (stage_frames plan S d stage.Quiet i) two.0 in
    let parts = front_none (frames_where S (runs_step d callback.EvtInterruptDpc)) (flat_map (λ cpu. holders_of S (head_lock plan S cpu)) (cpus_with_dpc plan S d)) fs in
    let fits = none_if (list_any (λ cpu. not (level_fits S cpu 2)) (cpus_with_dpc plan S d)) cause.NoCpu last.0 in
    let over : is_running S.cpus callback.EvtInterruptDpc d ≡ false = no_count (λ f. runs_step d callback.EvtInterruptDpc (frame_of S.cpus f)) (all_frames S.cpus) parts.0 in
    let quiet : is_quiet plan S d ≡ true =
    both (list_all (λ x. not (is_dpc_queued S.dpcs x)) (interrupts_of plan d)) (not (is_running S.cpus callback.EvtInterruptDpc d))
    (each_one (λ x. not (is_dpc_queued S.dpcs x)) (interrupts_of plan d) (none_queued plan m S rest size may_be d parts.1 fits)) (ap not over) in
    stage_comes plan m S rest d stage.Quiet i low next calm (first (not (follows_queues_up S.pnp d)) (resumes_over S d) early) quiet

-- ---- a callback

lives : {A : Type 0} (S : State A) (c : Callback) (o : ℕ) → is_sequence (row_of c).rank ≡ true → is_live (life_of S.tree o) ≡ true → life_fits S c o ≡ true
lives S callback.EvtCleanupCallback o is h = absurd (let z : ⊥ = cc in z)
lives S callback.EvtDestroyCallback o is h = absurd (let z : ⊥ = cc in z)
lives S _ o is h = h

begins_at : {A : Type 0} (plan : Plan) (S : State A) (cpu d : ℕ) (c : Callback) (i : Option Handle) → start_of_step plan S cpu d (step.Run c i) ≡ Some (starts plan S cpu c (object_of_step d i))
begins_at plan S cpu d c None = refl
begins_at plan S cpu d c (Some i) = refl

-- the callback of a step comes, where its line has no cause
pub callback_comes : {A : Type 0} (plan : Plan) (m : Meaning A) (S : State A) → AtRest plan m S true → (d : ℕ) (c : Callback) (i : Option Handle) → d < declared_end plan → next_step S.pnp d ≡ Some (step.Run c i)
    → not (is_running_step S.pnp d) ≡ true → (not (follows_queues_up S.pnp d) || resumes_over S d) ≡ true → step_may_run plan S d (step.Run c i) ≡ true → step_cause plan S d (step.Run c i) ≡ None → ⊥
callback_comes plan m S rest d c i low next calm unkept may_be h =
    let o : ℕ = object_of_step d i in
    let lock : Option _ = lock_of_callback plan c o (declared_in plan S o) in
    let one = none_first (by_frame (holders_of S lock)) (cause_if (no_cpu plan S (callback_irql plan c o)) cause.NoCpu ∷ []) h in
    let two = none_first (cause_if (no_cpu plan S (callback_irql plan c o)) cause.NoCpu) [] one.1 in
    let free : is_free_if_any S.locks lock ≡ true = free_by_none S lock (none_least (λ f. cause.ByFrame (frame_id f)) (holders_of S lock) one.0) in
    let left = free_one (λ cpu. level_fits S cpu (callback_irql plan c o)) 0 plan.cpus (none_if (no_cpu plan S (callback_irql plan c o)) cause.NoCpu two.0) in
    let cpu : ℕ = left.0 in
    let under : cpu < 0 + plan.cpus = left.1 in
    let within : cpu < plan.cpus = omega arith in
    let e : Event = starts plan S cpu c o in
    let same : same_option same_handle (interrupt_of_step plan S o) i ≡ true = both_right (has_callback plan S c o && is_sequence (row_of c).rank && nearest_device S.tree o == d) (same_option same_handle (interrupt_of_step plan S o) i) may_be in
    let before : (has_callback plan S c o && is_sequence (row_of c).rank && nearest_device S.tree o == d) ≡ true = both_left (has_callback plan S c o && is_sequence (row_of c).rank && nearest_device S.tree o == d) (same_option same_handle (interrupt_of_step plan S o) i) may_be in
    let near : nearest_device S.tree o ≡ d = eqb-true (nearest_device S.tree o) d (both_right (has_callback plan S c o && is_sequence (row_of c).rank) (nearest_device S.tree o == d) before) in
    let run : (has_callback plan S c o && is_sequence (row_of c).rank) ≡ true = both_left (has_callback plan S c o && is_sequence (row_of c).rank) (nearest_device S.tree o == d) before in
    let is : is_sequence (row_of c).rank ≡ true = both_right (has_callback plan S c o) (is_sequence (row_of c).rank) run in
    let can : has_callback plan S c o ≡ true = both_left (has_callback plan S c o) (is_sequence (row_of c).rank) run in
    let live : is_live (life_of S.tree o) ≡ true = both_left (is_live (life_of S.tree o)) (declares_in plan S c o) can in
    let has : declares_in plan S c o ≡ true = both_right (is_live (life_of S.tree o)) (declares_in plan S c o) can in
    let next_is : step_of plan S c o ≡ step.Run c i = ap (step.Run c) (same_interrupt (interrupt_of_step plan S o) i same) in
    let ready_at : step_ready S d (step.Run c i) ≡ true = stepping S d (step.Run c i) (both (same_callback c c) (same_option same_handle i i) ((callback_decides c c).1 refl) (handle_itself i)) next calm unkept in
    let ready : step_ready S (nearest_device S.tree o) (step_of plan S c o) ≡ true = ap (λ x. step_ready S x (step_of plan S c o)) near ∙ ap (step_ready S d) next_is ∙ ready_at in
    let ranked : is_ready_for plan m S cpu c o None ≡ true = ap (λ k. rank_ready plan m S k cpu c o) (sequence_is (row_of c).rank is) ∙ ready in
    let at : option_and_then (start_of_step plan S cpu d) (next_step S.pnp d) ≡ Some e = ap (option_and_then (start_of_step plan S cpu d)) next ∙ begins_at plan S cpu d c i in
    let offered : Has e (candidates plan m S) =
    cpu_group plan m S cpu (group.Starts cpu rank.Sequence) e within
    (inr (inr (inr (has_flat (groups_of_rank plan cpu) rank.Sequence (group.Starts cpu rank.Sequence) RANKS (inr (inr (inr (inr (inr (inr (inr (inr (inr (inr (inl refl))))))))))) (inl refl)))))
    (placed_at plan m S (group.Starts cpu rank.Sequence) (declared_end plan) d e low at) in
    let no : may plan m S e ≡ false = may_not plan m S true e rest offered in
    let comes : may plan m S e ≡ true =
    all_four (nat_lt cpu plan.cpus) (is_proper plan S (handle_in plan S o)) true (may_start plan m S cpu c o None) (below_cpus cpu plan.cpus within) (itself (handle_in plan S o).name) refl
    (five (declares_in plan S c o) (life_fits S c o) (level_fits S cpu (callback_irql plan c o)) (is_free_if_any S.locks lock) (is_ready_for plan m S cpu c o None)
    has (lives S c o is live) left.2 free ranked) in
    let z : ⊥ = cc in z
  where
    same_interrupt : (a b : Option Handle) → same_option same_handle a b ≡ true → a ≡ b
    same_interrupt None None e = refl
    same_interrupt (Some x) (Some y) e = ap Some ((handle_decides x y).0 e)
    same_interrupt None (Some y) e = absurd (let z : ⊥ = cc in z)
    same_interrupt (Some x) None e = absurd (let z : ⊥ = cc in z)
