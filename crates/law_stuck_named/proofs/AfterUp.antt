-- The line of a device whose next step comes right after `queues_up` always has a cause: a resume could start, or the step.
use Rattle.std.proofs.Common.{if◌then◌else◌, ◌≡◌, ◌≢◌, inl, inr, ℕ, suc, ◌+◌, ◌==◌, ◌<◌, Bool, true, false, not, ◌&&◌, nat_lt, List, [], ◌∷◌, Option, Some, None, is_some, length, refl, sym, ap, subst, ◌∙◌, arith}
use Rattle.std.specs.List.{list_any}
use Rattle.std.proofs.lemmas.Bool.{cases_Bool, eqb-true}
use Rattle.wdf_base.specs.Meaning.{Meaning}
use Rattle.wdf_base.specs.Plan.{declared_of}
use Rattle.wdf_base.specs.Same.{same_kind}
use Rattle.wdf_base.specs.declared.plan.Plan.{Plan}
use Rattle.wdf_base.specs.declared.declared.Declared.TheVariants as declared
use Rattle.wdf_base.specs.declared.object.Kind.TheVariants as kind
use Rattle.wdf_base.specs.declared.object.LockRef.{LockRef}
use Rattle.wdf_base.specs.declared.object.Place.{Place}
use Rattle.wdf_base.specs.declared.object.Place.TheVariants as place
use Rattle.wdf_base.specs.declared.call.Callback.TheVariants as callback
use Rattle.wdf_base.specs.declared.rank.Rank.TheVariants as rank
use Rattle.wdf_base.specs.declared.event.Event.{Event}
use Rattle.wdf_base.specs.declared.event.Stage.TheVariants as stage
use Rattle.wdf_base.specs.declared.event.Step.{Step}
use Rattle.wdf_base.specs.declared.event.Step.TheVariants as step
use Rattle.wdf_base.specs.declared.wait.Cause.TheVariants as cause
use Rattle.wdf_base.specs.Lives.{is_live}
use Rattle.wdf_base.specs.Places.{is_done}
use Rattle.wdf_model.specs.Ids.{frame_id}
use Rattle.wdf_model.specs.declared.enums.Group.TheVariants as group
use Rattle.wdf_model.specs.declared.entries.Holding.{Holding}
use Rattle.wdf_model.specs.declared.entries.Request.{Request}
use Rattle.wdf_model.specs.Tables.{entry, ids_of, same_id}
use Rattle.wdf_model.specs.Plans.{as_queue, declared_ids, declares, device_of, device_of_queue, is_managed, is_queue_of, managed_queues, queue_level, queue_of, queues_of, script_on}
use Rattle.wdf_model.specs.parts.Tree.{kind_of, life_of, made_as, node_of}
use Rattle.wdf_model.specs.parts.Cpus.{all_frames, frame_of, is_running}
use Rattle.wdf_model.specs.parts.Locks.{is_free_if_any, scope_of}
use Rattle.wdf_model.specs.parts.Power.{any_resume_due, holding_of, is_held, is_held_at, no_holding, queue_power, resume_due}
use Rattle.wdf_model.specs.parts.Pnp.{follows_queues_up, follows_up, is_running_step, next_step, sequence_of}
use Rattle.wdf_model.specs.parts.Requests.{no_request, origin_of, place_of}
use Rattle.wdf_model.specs.parts.Targets.{is_forgotten}
use Rattle.wdf_model.specs.State.{State, declared_in, declares_in, handle_in, held_at, held_from, is_held_from, is_proper, is_with_driver}
use Rattle.law_machine_base.specs.Agreement.{managed_origin}
use Rattle.wdf_model.specs.rules.Groups.{candidates, declared_end, groups_of_rank, queues_in, RANKS, starts_for}
use Rattle.wdf_model.specs.rules.Starts.{level_fits, may_start, resumes_over}
use Rattle.wdf_model.specs.rules.Steps.{may}
use Rattle.wdf_model.specs.rules.Waits.{by_frame, cause_if, first_cause, frames_where, holders_of, no_cpu, queues_to_resume, resume_cpus, resume_frames, resumes_at, resumes_cause, runs_step, scope_holders, step_cause}
use Rattle.wdf_model.proofs.Tests.{all_four, both, both_left, both_right, itself, second}
use Rattle.wdf_model.proofs.Sames.{kind_decides}
use Rattle.law_machine_counts.proofs.Holding.{HoldsIn, holder}
use Rattle.law_machine_counts.proofs.HeldOverRuns.{from_by}
use Rattle.law_machine_counts.proofs.StillFrames.{live_there}
use Rattle.law_machine_lives.proofs.Lists.{inside}
use Rattle.law_stuck_causes.proofs.Members.{Has, has_flat, has_image, has_kept, has_range}
use Rattle.law_stuck_causes.proofs.Endings.{AtRest, may_not}
use Rattle.law_stuck_causes.proofs.Needs.{below_cpus, cpu_group, free_one, front_none, no_count, none_first, none_if, none_least, placed_at}
use Rattle.law_stuck_named_if.specs.Starts.{step_may_run}
use Rattle.law_stuck_named_if.proofs.Dpcs.{free_by_none}
use Rattle.law_stuck_causes.proofs.Stages.{none_of, stage_comes}
use Rattle.law_stuck_named_if.proofs.Steps.{callback_comes, none_gathered}
use Rattle.law_stuck_named_if.proofs.Presents.{declared_within, queue_there}
use Rattle.law_trace_queues.proofs.Resuming.{device_noted, noted}
use Rattle.law_stuck_named.specs.Standing.{is_live_device, is_part, is_part_of}
use Rattle.law_stuck_causes.proofs.Conjuncts.{five}
use Rattle.law_stuck_named.proofs.Standing.{Stands}
use Rattle.law_stuck_named.proofs.Coming.{Facts}
use Rattle.law_stuck_named.proofs.Queues.{queue_is}
use Rattle.law_stuck_named.proofs.Resumes.{Resumable}

-- ---- lists

not_empty : (x : ℕ) (xs : List ℕ) → Has x xs → nat_lt 0 (length xs) ≡ true
not_empty x [] h = absurd h
not_empty x (y ∷ ys) h = below_cpus 0 (suc (length ys)) (omega arith)

any_place_by : {T : Type 0} (blank : T) (p : T → Bool) (x : T) (xs : List T) (b : Bool) → p x ≡ b → list_any p (x ∷ xs) ≡ true → (list_any p xs ≡ true → (k : ℕ) × (p (entry blank xs k) ≡ true)) → (k : ℕ) × (p (entry blank (x ∷ xs) k) ≡ true)
any_place_by blank p x xs true e h rest = (0, e)
any_place_by blank p x xs false e h rest = let more = rest (rw e at h) in (suc more.0, more.1)

pub any_place : {T : Type 0} (blank : T) (p : T → Bool) (xs : List T) → list_any p xs ≡ true → (k : ℕ) × (p (entry blank xs k) ≡ true)
any_place blank p [] h = absurd (let z : ⊥ = cc in z)
any_place blank p (x ∷ xs) h = any_place_by blank p x xs (p x) refl h (any_place blank p xs)

-- ---- a step that waits for no resume

-- the step right after `queues_up` comes
step_comes : {A : Type 0} (plan : Plan) (m : Meaning A) (S : State A) → AtRest plan m S true → (d : ℕ) → d < declared_end plan → not (is_running_step S.pnp d) ≡ true → (s : Step) → next_step S.pnp d ≡ Some s
    → follows_up (sequence_of S.pnp d) (Some s) ≡ true → resumes_over S d ≡ true → step_may_run plan S d s ≡ true → step_cause plan S d s ≡ None → ⊥
step_comes plan m S rest d low calm (step.Run c i) next after over may_be none =
    callback_comes plan m S rest d c i low next calm (second (not (follows_queues_up S.pnp d)) (resumes_over S d) over) may_be none
step_comes plan m S rest d low calm (step.Pass stage.Working i) next after over may_be none =
    stage_comes plan m S rest d stage.Working i low next calm (second (not (follows_queues_up S.pnp d)) (resumes_over S d) over) refl
step_comes plan m S rest d low calm (step.Pass _ i) next after over may_be none = let z : ⊥ = cc in z

-- ---- a resume that is due

managed_by : (plan : Plan) (o : Option ℕ) (q : ℕ) → managed_origin plan o ≡ q → nat_lt 0 q ≡ true → (is_managed plan q ≡ true) × (same_id o q ≡ true)
managed_by plan None q e h = absurd (let off : nat_lt 0 q ≡ false = ap (nat_lt 0) (sym e) in let z : ⊥ = cc in z)
managed_by plan (Some p) q e h = by (is_managed plan p) refl
  where
    by : (b : Bool) → is_managed plan p ≡ b → (is_managed plan q ≡ true) × (same_id (Some p) q ≡ true)
    by true k = let same : p ≡ q = (let t : (if is_managed plan p then p else 0) ≡ q = e in rw k at t) in (subst (λ y. is_managed plan y ≡ true) same k, ap (λ y. y == q) same ∙ itself q)
    by false k = absurd (let z_ : 0 ≡ q = (let t : (if is_managed plan p then p else 0) ≡ q = e in rw k at t) in let off : nat_lt 0 q ≡ false = ap (nat_lt 0) (sym z_) in let z : ⊥ = cc in z)

held_undone : (forgotten : Bool) (p : Place) → held_at forgotten p ≡ true → not (is_done p) ≡ true
held_undone forgotten place.Done h = absurd (let z : ⊥ = cc in z)
held_undone forgotten _ h = refl

module _ {A : Type 0} (plan : Plan) (m : Meaning A) (S : State A) (rest : AtRest plan m S true) (facts : Facts plan S) (k : Stands plan S) (resumable : Resumable plan S) (holds : HoldsIn plan S) (d : ℕ) (dev : is_live_device plan S d ≡ true) where
  resume_comes : scope_holders plan S (queues_to_resume plan S d) ≡ [] → resume_cpus plan S d ≡ false → (r : ℕ) → is_held_at S.power d (holding_of S.power r) ≡ true → resume_due S.power r ≡ true → ⊥
  resume_comes unheld cpus r held due =
      let q : ℕ = noted S.power r in
      let h : Holding = holding_of S.power r in
      let there : is_held h ≡ true = both_left (is_held h) ((queue_power S.power q).device.0 == d) held in
      let at : device_of_queue plan q ≡ d = sym (device_noted plan S.power q resumable.queues) ∙ eqb-true (queue_power S.power q).device.0 d (both_right (is_held h) ((queue_power S.power q).device.0 == d) held) in
      let from = managed_by plan (holder S.requests S.targets r) q (sym (holds.holdings r)) there in
      let held_ : is_held_from S q r ≡ true = from_by (is_with_driver S r) (origin_of S.requests r) q ∙ from.1 in
      let has : declares plan callback.EvtIoResume q ≡ true = resumable.due r (both (is_held h) (resume_due S.power r) there due) in
      let is : is_some (device_of plan d) ≡ true = both_left (is_some (device_of plan d)) (is_live (life_of S.tree d)) dev in
      let up : is_live (life_of S.tree d) ≡ true = both_right (is_some (device_of plan d)) (is_live (life_of S.tree d)) dev in
      let no_zero : d ≢ 0 = λ z_. (let off : is_some (device_of plan d) ≡ false = ap (λ y. is_some (device_of plan y)) z_ in let z : ⊥ = cc in z) in
      let i = queue_is plan q d (declared_of plan q) refl at no_zero in
      let part : is_part_of plan d q ≡ true = both (is_part d (declared_of plan q)) (is_some (device_of plan d)) (ap (is_part d) i.1 ∙ (ap (λ y. y == d) i.2 ∙ itself d)) is in
      let live : is_live (life_of S.tree q) ≡ true = k.parts d q part up in
      let kind_ : kind_of S.tree q ≡ kind.Queue = (facts.declared q (declared.Queue i.0) i.1 (live_there (life_of S.tree q) live)).1 in
      let is_queue : same_kind (kind_of S.tree q) kind.Queue ≡ true = (kind_decides (kind_of S.tree q) kind.Queue).1 kind_ in
      let told : declared_in plan S q ≡ declared_of plan q = ap (made_as plan (node_of S.tree q) q) kind_ in
      let runs : declares_in plan S callback.EvtIoResume q ≡ true = ap (λ y. is_some (script_on plan callback.EvtIoResume y)) told ∙ has in
      let inside_ : q < declared_end plan = declared_within plan q (ap is_some i.1) in
      let ids : Has q (declared_ids plan) = has_range q 0 (declared_end plan) (omega arith) (omega arith) in
      let its : Has q (queues_of plan d) = has_kept (λ y. is_queue_of d (queue_of plan y)) q (declared_ids plan) ids (ap (λ o. is_queue_of d (as_queue o)) i.1 ∙ (ap (λ y. y == d) i.2 ∙ itself d)) in
      let managed : Has q (managed_queues plan d) = has_kept (is_managed plan) q (queues_of plan d) its from.0 in
      let low : r < length S.requests.all = inside no_request (λ (e : Request). not (is_done e.place)) S.requests.all r refl (held_undone (is_forgotten S.targets r) (place_of S.requests r) (both_right (same_id (origin_of S.requests r) q) (is_with_driver S r) held_)) in
      let all : Has r (ids_of S.requests.all) = has_range r 0 (length S.requests.all) (omega arith) (omega arith) in
      let holding_ : Has r (held_from S q) = has_kept (is_held_from S q) r (ids_of S.requests.all) all held_ in
      let resuming : Has r (resumes_at plan S q) = has_kept (resume_due S.power) r (held_from S q) holding_ due in
      let there_q : Has q (queues_to_resume plan S d) = has_kept (λ y. nat_lt 0 (length (resumes_at plan S y))) q (managed_queues plan d) managed (not_empty r (resumes_at plan S q) resuming) in
      let lock : Option LockRef = scope_of plan callback.EvtIoResume q (declared_in plan S q) in
      let free : is_free_if_any S.locks lock ≡ true = free_by_none S lock (none_gathered (λ y. holders_of S (scope_of plan callback.EvtIoResume y (declared_in plan S y))) q (queues_to_resume plan S d) there_q unheld) in
      let left = free_one (λ cpu. level_fits S cpu (queue_level plan q)) 0 plan.cpus (none_of (λ y. no_cpu plan S (queue_level plan y)) (queues_to_resume plan S d) cpus q there_q) in
      let under : left.0 < 0 + plan.cpus = left.1 in
      let within : left.0 < plan.cpus = omega arith in
      let e : Event = starts_for plan S left.0 callback.EvtIoResume q r in
      let offered : Has e (candidates plan m S) =
      cpu_group plan m S left.0 (group.StartsFor left.0 rank.Resume q) e within
      (inr (inr (inr (has_flat (groups_of_rank plan left.0) rank.Resume (group.StartsFor left.0 rank.Resume q) RANKS (inr (inr (inr (inr (inr (inr (inr (inl refl)))))))) (has_image (λ o. group.StartsFor left.0 rank.Resume o) q (queues_in plan) (queue_there plan S q facts.known.known.declared is_queue))))))
      (rw has (placed_at plan m S (group.StartsFor left.0 rank.Resume q) (length S.requests.all) r e low refl)) in
      let no_ : may plan m S e ≡ false = may_not plan m S true e rest offered in
      let comes : may plan m S e ≡ true =
      all_four (nat_lt left.0 plan.cpus) (is_proper plan S (handle_in plan S q)) (is_proper plan S (handle_in plan S r)) (may_start plan m S left.0 callback.EvtIoResume q (Some (handle_in plan S r)))
      (below_cpus left.0 plan.cpus within) (itself (handle_in plan S q).name) (itself (handle_in plan S r).name)
      (five (declares_in plan S callback.EvtIoResume q) (is_live (life_of S.tree q)) (level_fits S left.0 (queue_level plan q)) (is_free_if_any S.locks lock) (resume_due S.power r && is_held_from S q r)
      runs live left.2 free (both (resume_due S.power r) (is_held_from S q r) due held_)) in
      let z : ⊥ = cc in z

  pub after_up_waits : d < declared_end plan → not (is_running_step S.pnp d) ≡ true → (s : Step) → next_step S.pnp d ≡ Some s → follows_queues_up S.pnp d ≡ true → step_may_run plan S d s ≡ true → first_cause (resumes_cause plan S d ∷ step_cause plan S d s ∷ []) ≡ None → ⊥
  after_up_waits low calm s next after may_be none =
      let parts = none_first (resumes_cause plan S d) (step_cause plan S d s ∷ []) none in
      let resumes : first_cause (by_frame (resume_frames plan S d) ∷ cause_if (resume_cpus plan S d) cause.NoCpu ∷ []) ≡ None = (let t : resumes_cause plan S d ≡ None = parts.0 in rw after at t) in
      let one = none_first (by_frame (resume_frames plan S d)) (cause_if (resume_cpus plan S d) cause.NoCpu ∷ []) resumes in
      let two = none_first (cause_if (resume_cpus plan S d) cause.NoCpu) [] one.1 in
      let fs : resume_frames plan S d ≡ [] = none_least (λ f. cause.ByFrame (frame_id f)) (resume_frames plan S d) one.0 in
      let lists = front_none (frames_where S (runs_step d callback.EvtIoResume)) (scope_holders plan S (queues_to_resume plan S d)) fs in
      let cpus : resume_cpus plan S d ≡ false = none_if (resume_cpus plan S d) cause.NoCpu two.0 in
      let over : is_running S.cpus callback.EvtIoResume d ≡ false = no_count (λ f. runs_step d callback.EvtIoResume (frame_of S.cpus f)) (all_frames S.cpus) lists.0 in
      let last : step_cause plan S d s ≡ None = (none_first (step_cause plan S d s) [] parts.1).0 in
      elim (cases_Bool (any_resume_due S.power d)) as (λ _. ⊥) [
        | inl due ↦
            let r = any_place no_holding (λ (h : Holding). is_held_at S.power d h && h.resume_due) S.power.holdings due in
            resume_comes lists.1 cpus r.0 (both_left (is_held_at S.power d (holding_of S.power r.0)) (resume_due S.power r.0) r.1) (both_right (is_held_at S.power d (holding_of S.power r.0)) (resume_due S.power r.0) r.1)
        | inr none_due ↦
            step_comes plan m S rest d low calm s next (ap (follows_up (sequence_of S.pnp d)) (sym next) ∙ after)
            (both (not (any_resume_due S.power d)) (not (is_running S.cpus callback.EvtIoResume d)) (ap not none_due) (ap not over)) may_be last
      ]
