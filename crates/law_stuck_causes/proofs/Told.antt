-- What the lines of queued work and of devices name is so, and so of the whole wait list.
use Rattle.std.proofs.Common.{if◌then◌else◌, ◌≡◌, inl, inr, ℕ, ◌==◌, slice_get, Bool, true, false, not, ◌&&◌, ◌||◌, List, [], ◌∷◌, Option, Some, None, is_some, filter, refl, sym, ap, ◌∙◌}
use Rattle.std.specs.List.{flat_map, list_any}
use Rattle.wdf_base.specs.declared.plan.Plan.{Plan}
use Rattle.wdf_base.specs.declared.object.LockRef.{LockRef}
use Rattle.wdf_base.specs.declared.call.Callback.{Callback}
use Rattle.wdf_base.specs.declared.call.Callback.TheVariants as callback
use Rattle.wdf_base.specs.declared.wait.Cause.{Cause}
use Rattle.wdf_base.specs.declared.wait.Cause.TheVariants as cause
use Rattle.wdf_base.specs.declared.wait.OpenThing.{OpenThing}
use Rattle.wdf_base.specs.declared.wait.OpenThing.TheVariants as thing
use Rattle.wdf_model.specs.Ids.{frame_id}
use Rattle.law_machine_base.specs.OverRuns.{PlacesAgree}
use Rattle.wdf_model.specs.Tables.{ids_of}
use Rattle.wdf_model.specs.Plans.{queue_level}
use Rattle.wdf_model.specs.parts.Cpus.{all_frames, frame_of, is_on}
use Rattle.wdf_model.specs.parts.Locks.{is_free_if_any, object_lock, scope_of}
use Rattle.wdf_model.specs.parts.Requests.{place_of}
use Rattle.wdf_model.specs.parts.Deferred.WorkItems.{is_work_queued}
use Rattle.wdf_model.specs.State.{State, declared_in, handle_in}
use Rattle.wdf_model.specs.rules.Starts.{level_fits}
use Rattle.wdf_model.specs.rules.Waits.{by_frame, by_frame_on, cause_if, frame_cause, frame_line, frames_where, holders_of, no_cpu, object_cause, object_line, scope_is_held}
use Rattle.wdf_model.proofs.Tests.{first, second}
use Rattle.law_stuck_causes.specs.Caused.{has_no_cause}
use Rattle.law_stuck_causes.specs.Causes.{all_taken, is_taken, is_there, keeps, runs_on}
use Rattle.law_stuck_causes.proofs.Members.{Has}
use Rattle.law_stuck_causes.proofs.Gives.{Gives, IfThere, any_has, gives_first, gives_frame, gives_if, gives_none, gives_request, has_either, has_gathered, has_kept, it_contains}
use Rattle.wdf_base.specs.declared.ids.Handle.{Handle}
use Rattle.wdf_base.specs.declared.event.Stage.{Stage}
use Rattle.wdf_base.specs.declared.event.Stage.TheVariants as stage
use Rattle.wdf_base.specs.declared.event.Step.{Step}
use Rattle.wdf_base.specs.declared.event.Step.TheVariants as step
use Rattle.wdf_base.specs.Same.{same_callback}
use Rattle.wdf_model.specs.Plans.{callback_irql, managed_queues}
use Rattle.wdf_model.specs.parts.Tree.{kind_of}
use Rattle.wdf_model.specs.parts.Locks.{lock_of_callback}
use Rattle.wdf_model.specs.parts.Requests.{request_of}
use Rattle.wdf_model.specs.parts.Power.{holding_of, is_unsettled_at}
use Rattle.wdf_model.specs.parts.Pnp.{follows_queues_up, is_running_step, next_step, running_step}
use Rattle.wdf_model.specs.parts.Deferred.Dpcs.{is_dpc_queued}
use Rattle.wdf_model.specs.rules.Starts.{handle_id, is_unfinished_at, targets_at}
use Rattle.wdf_model.specs.rules.Waits.{by_request, cpu_of_dpc, cpus_with_dpc, deferred_cause, deferred_line, dpc_cause, first_cause, head_lock, object_of_step, queues_to_resume, quiet_frames, resume_cpus, resume_frames, resumes_cause, running_cause, runs_step, scope_holders, sequence_line, stage_cpus, stage_frames, stage_requests, step_cause, wait_list, work_cause}
use Rattle.wdf_base.specs.Meaning.{Meaning}
use Rattle.wdf_base.specs.declared.event.Event.{Event}
use Rattle.wdf_base.specs.declared.event.Ending.TheVariants as ending
use Rattle.wdf_base.specs.Places.{is_sent_to}
use Rattle.wdf_base.specs.Callbacks.{dpc_function}
use Rattle.wdf_model.specs.rules.Ready.{IsRunOf, ending_of, state_after}
use Rattle.law_machine_base.proofs.LawsOverRuns.{places_agree}
use Rattle.law_stuck_causes.specs.Causes.{awaits_cpu, awaits_frame, awaits_request, has_lock_if_any, keeps_deferred, keeps_dpc, keeps_next, keeps_resumes, keeps_running, keeps_step, keeps_work, runs_callback}
use Rattle.law_stuck_causes.proofs.Endings.{at_the_end}
use Rattle.law_stuck_causes.proofs.Gives.{any_alike}
use Rattle.law_stuck_causes.proofs.EachLine.{OfLines, each_line}
use Rattle.law_stuck_causes.proofs.Forms.{LineSo, frame_so, lock_held, lock_of_list, none_left, not_fits, on_object, request_so, so_by, weaker}
use Rattle.law_stuck_causes.proofs.Objects.{object_so}

-- ---- queued work

dpc_locks : {A : Type 0} (plan : Plan) (S : State A) (o : ℕ)
    → (scope_is_held plan S (dpc_function (kind_of S.tree o)) o || not (is_free_if_any S.locks (head_lock plan S (cpu_of_dpc plan S o)))) ≡ keeps_dpc plan S o cause.ScopeHeld
dpc_locks plan S o = rw (lock_held S (scope_of plan (dpc_function (kind_of S.tree o)) o (declared_in plan S o)), lock_held S (head_lock plan S (cpu_of_dpc plan S o))) refl

dpc_so : {A : Type 0} (plan : Plan) (S : State A) (o : ℕ) → Gives (keeps_dpc plan S o) (dpc_cause plan S o)
dpc_so plan S o =
    gives_first (keeps_dpc plan S o)
    (cause_if (scope_is_held plan S (dpc_function (kind_of S.tree o)) o || not (is_free_if_any S.locks (head_lock plan S (cpu_of_dpc plan S o)))) cause.ScopeHeld
    ∷ cause_if (not (level_fits S (cpu_of_dpc plan S o) 2)) cause.NoCpu
    ∷ []) (
      gives_if (keeps_dpc plan S o) (scope_is_held plan S (dpc_function (kind_of S.tree o)) o || not (is_free_if_any S.locks (head_lock plan S (cpu_of_dpc plan S o)))) cause.ScopeHeld (λ h. sym (dpc_locks plan S o) ∙ h),
      (
        gives_if (keeps_dpc plan S o) (not (level_fits S (cpu_of_dpc plan S o) 2)) cause.NoCpu (λ h. sym (not_fits S 2 (cpu_of_dpc plan S o)) ∙ h),
        tt,
      ),
    )

work_so : {A : Type 0} (plan : Plan) (S : State A) (c : Callback) (level o : ℕ) → Gives (keeps_work plan S c level o) (work_cause plan S c level o)
work_so plan S c level o =
    gives_first (keeps_work plan S c level o) (cause_if (scope_is_held plan S c o) cause.ScopeHeld ∷ by_frame_on S o ∷ cause_if (no_cpu plan S level) cause.NoCpu ∷ []) (
      gives_if (keeps_work plan S c level o) (scope_is_held plan S c o) cause.ScopeHeld (λ h. sym (lock_held S (scope_of plan c o (declared_in plan S o))) ∙ h),
      (
        gives_frame (keeps_work plan S c level o) (filter (is_on S.cpus o) (all_frames S.cpus)) (λ f h. on_object S o f h),
        (
          gives_if (keeps_work plan S c level o) (no_cpu plan S level) cause.NoCpu (λ h. sym (none_left plan S level) ∙ h),
          tt,
        ),
      ),
    )

gives_by : (b : Bool) (p q : Cause → Bool) (o u : Option Cause) → Gives p o → Gives q u → Gives (λ x. if b then p x else q x) (if b then o else u)
gives_by true p q o u g h = g
gives_by false p q o u g h = h

deferred_so : {A : Type 0} (plan : Plan) (S : State A) (o : ℕ) → Gives (keeps_deferred plan S o) (deferred_cause plan S o)
deferred_so plan S o =
    gives_by (is_dpc_queued S.dpcs o) (keeps_dpc plan S o) (λ x. if is_work_queued S.work_items o then keeps_work plan S callback.EvtWorkItem 0 o x else keeps_work plan S callback.EvtTimerFunc 2 o x)
    (dpc_cause plan S o) (if is_work_queued S.work_items o then work_cause plan S callback.EvtWorkItem 0 o else work_cause plan S callback.EvtTimerFunc 2 o)
    (dpc_so plan S o)
    (gives_by (is_work_queued S.work_items o) (keeps_work plan S callback.EvtWorkItem 0 o) (keeps_work plan S callback.EvtTimerFunc 2 o)
    (work_cause plan S callback.EvtWorkItem 0 o) (work_cause plan S callback.EvtTimerFunc 2 o)
    (work_so plan S callback.EvtWorkItem 0 o) (work_so plan S callback.EvtTimerFunc 2 o))

-- ---- devices

lock_if_any : {A : Type 0} (S : State A) (l : Option LockRef) (g : ℕ) → Has g (holders_of S l) → has_lock_if_any S l g ≡ true
lock_if_any S None g h = absurd h
lock_if_any S (Some l) g h = lock_of_list S l g h

and_three : (a b c : Bool) → a ≡ true → (b && c) ≡ true → (a && b && c) ≡ true
and_three true b c h k = k
and_three false b c h k = h

runs_so : {A : Type 0} (S : State A) (d : ℕ) (c : Callback) (f : ℕ) → Has f (frames_where S (runs_step d c)) → runs_callback S d c f ≡ true
runs_so S d c f h =
    let kept = has_kept (λ g. runs_step d c (frame_of S.cpus g)) f (all_frames S.cpus) h in
    and_three (is_there S f) (same_callback (frame_of S.cpus f).callback c) ((frame_of S.cpus f).device.id.0 == d) (it_contains f (all_frames S.cpus) kept.1) kept.0

requests_so : {A : Type 0} (plan : Plan) (S : State A) (d : ℕ) (s : Stage) (r : ℕ) → Has r (stage_requests plan S d s) → awaits_request plan S d s r ≡ true
requests_so plan S d stage.Settled r h = (has_kept (λ x. is_unsettled_at S.power d (holding_of S.power x)) r (ids_of S.power.holdings) h).0
requests_so plan S d stage.Removed r h =
    (has_kept (λ x. is_unfinished_at d (request_of S.requests x) || list_any (λ t. is_sent_to t (place_of S.requests x)) (targets_at plan d)) r (ids_of S.requests.all) h).0
requests_so plan S d _ r h = absurd h

quiet_so : {A : Type 0} (plan : Plan) (S : State A) (d f : ℕ) → Has f (quiet_frames plan S d) → awaits_frame plan S d stage.Quiet None f ≡ true
quiet_so plan S d f h =
    elim (has_either f (frames_where S (runs_step d callback.EvtInterruptDpc)) (flat_map (λ cpu. holders_of S (head_lock plan S cpu)) (cpus_with_dpc plan S d)) h) as (λ _. awaits_frame plan S d stage.Quiet None f ≡ true) [
      | inl k ↦ first (runs_callback S d callback.EvtInterruptDpc f) (list_any (λ cpu. has_lock_if_any S (head_lock plan S cpu) f) (cpus_with_dpc plan S d)) (runs_so S d callback.EvtInterruptDpc f k)
      | inr k ↦
          let from = has_gathered (λ cpu. holders_of S (head_lock plan S cpu)) f (cpus_with_dpc plan S d) k in
          second (runs_callback S d callback.EvtInterruptDpc f) (list_any (λ cpu. has_lock_if_any S (head_lock plan S cpu) f) (cpus_with_dpc plan S d))
          (any_has (λ cpu. has_lock_if_any S (head_lock plan S cpu) f) from.from (cpus_with_dpc plan S d) from.there (lock_if_any S (head_lock plan S from.from) f from.gives))
    ]

frames_so : {A : Type 0} (plan : Plan) (S : State A) (d : ℕ) (s : Stage) (i : Option Handle) (f : ℕ) → Has f (stage_frames plan S d s i) → awaits_frame plan S d s i f ≡ true
frames_so plan S d stage.Settled i f h =
    let from = has_gathered (λ q. filter (is_on S.cpus q) (all_frames S.cpus)) f (managed_queues plan d) h in
    any_has (λ q. runs_on S q f) from.from (managed_queues plan d) from.there (on_object S from.from f from.gives)
frames_so plan S d stage.Disabled i f h = lock_of_list S (object_lock (handle_id i)) f h
frames_so plan S d stage.Quiet i f h = quiet_so plan S d f h
frames_so plan S d _ i f h = absurd h

cpus_so : {A : Type 0} (plan : Plan) (S : State A) (d : ℕ) (s : Stage) → stage_cpus plan S d s ≡ true → awaits_cpu plan S d s ≡ true
cpus_so plan S d stage.Quiet h = sym (any_alike (λ cpu. not (level_fits S cpu 2)) (is_taken S 2) (not_fits S 2) (cpus_with_dpc plan S d)) ∙ h
cpus_so plan S d _ h = absurd (let z : ⊥ = cc in z)

next_so : {A : Type 0} (plan : Plan) (S : State A) (d : ℕ) (s : Step) → Gives (keeps_next plan S d s) (step_cause plan S d s)
next_so plan S d (step.Run c i) =
    gives_first (keeps_next plan S d (step.Run c i))
    (by_frame (holders_of S (lock_of_callback plan c (object_of_step d i) (declared_in plan S (object_of_step d i)))) ∷ cause_if (no_cpu plan S (callback_irql plan c (object_of_step d i))) cause.NoCpu ∷ []) (
      gives_frame (keeps_next plan S d (step.Run c i)) (holders_of S (lock_of_callback plan c (object_of_step d i) (declared_in plan S (object_of_step d i))))
          (λ f h. lock_if_any S (lock_of_callback plan c (object_of_step d i) (declared_in plan S (object_of_step d i))) f h),
      (
        gives_if (keeps_next plan S d (step.Run c i)) (no_cpu plan S (callback_irql plan c (object_of_step d i))) cause.NoCpu (λ h. sym (none_left plan S (callback_irql plan c (object_of_step d i))) ∙ h),
        tt,
      ),
    )
next_so plan S d (step.Pass s i) =
    gives_first (keeps_next plan S d (step.Pass s i))
    (by_request plan S (stage_requests plan S d s) ∷ by_frame (stage_frames plan S d s i) ∷ cause_if (stage_cpus plan S d s) cause.NoCpu ∷ []) (
      gives_request (keeps_next plan S d (step.Pass s i)) plan S (stage_requests plan S d s) (λ r h. requests_so plan S d s r h),
      (
        gives_frame (keeps_next plan S d (step.Pass s i)) (stage_frames plan S d s i) (λ f h. frames_so plan S d s i f h),
        (
          gives_if (keeps_next plan S d (step.Pass s i)) (stage_cpus plan S d s) cause.NoCpu (λ h. cpus_so plan S d s h),
          tt,
        ),
      ),
    )

resume_so : {A : Type 0} (plan : Plan) (S : State A) (d f : ℕ) → Has f (resume_frames plan S d) → keeps_resumes plan S d (cause.ByFrame (frame_id f)) ≡ true
resume_so plan S d f h =
    elim (has_either f (frames_where S (runs_step d callback.EvtIoResume)) (scope_holders plan S (queues_to_resume plan S d)) h) as (λ _. keeps_resumes plan S d (cause.ByFrame (frame_id f)) ≡ true) [
      | inl k ↦
          first (runs_callback S d callback.EvtIoResume f) (list_any (λ q. has_lock_if_any S (scope_of plan callback.EvtIoResume q (declared_in plan S q)) f) (queues_to_resume plan S d)) (runs_so S d callback.EvtIoResume f k)
      | inr k ↦
          let from = has_gathered (λ q. holders_of S (scope_of plan callback.EvtIoResume q (declared_in plan S q))) f (queues_to_resume plan S d) k in
          second (runs_callback S d callback.EvtIoResume f) (list_any (λ q. has_lock_if_any S (scope_of plan callback.EvtIoResume q (declared_in plan S q)) f) (queues_to_resume plan S d))
          (any_has (λ q. has_lock_if_any S (scope_of plan callback.EvtIoResume q (declared_in plan S q)) f) from.from (queues_to_resume plan S d) from.there
          (lock_if_any S (scope_of plan callback.EvtIoResume from.from (declared_in plan S from.from)) f from.gives))
    ]

resumes_so : {A : Type 0} (plan : Plan) (S : State A) (d : ℕ) → Gives (keeps_resumes plan S d) (first_cause (by_frame (resume_frames plan S d) ∷ cause_if (resume_cpus plan S d) cause.NoCpu ∷ []))
resumes_so plan S d =
    gives_first (keeps_resumes plan S d) (by_frame (resume_frames plan S d) ∷ cause_if (resume_cpus plan S d) cause.NoCpu ∷ []) (
      gives_frame (keeps_resumes plan S d) (resume_frames plan S d) (λ f h. resume_so plan S d f h),
      (
        gives_if (keeps_resumes plan S d) (resume_cpus plan S d) cause.NoCpu
            (λ h. sym (any_alike (λ q. no_cpu plan S (queue_level plan q)) (λ q. all_taken plan S (queue_level plan q)) (λ q. none_left plan S (queue_level plan q)) (queues_to_resume plan S d)) ∙ h),
        tt,
      ),
    )

gives_where : (b : Bool) (p : Cause → Bool) (o : Option Cause) → Gives p o → Gives (λ x. b && p x) (if b then o else None)
gives_where true p o g = g
gives_where false p o g = gives_none (λ x. false && p x)

in_next : {A : Type 0} (plan : Plan) (S : State A) (d : ℕ) (s : Step) (x : Cause) → is_running_step S.pnp d ≡ false → ((follows_queues_up S.pnp d && keeps_resumes plan S d x) || keeps_next plan S d s x) ≡ true → keeps_step plan S d s x ≡ true
in_next plan S d s x e h = rw e h

next_line_so : {A : Type 0} (plan : Plan) (S : State A) (d : ℕ) (s : Step) → is_running_step S.pnp d ≡ false → Gives (keeps_step plan S d s) (first_cause (resumes_cause plan S d ∷ step_cause plan S d s ∷ []))
next_line_so plan S d s e =
    gives_first (keeps_step plan S d s) (resumes_cause plan S d ∷ step_cause plan S d s ∷ []) (
      weaker (λ x. follows_queues_up S.pnp d && keeps_resumes plan S d x) (keeps_step plan S d s) (resumes_cause plan S d)
          (λ x h. in_next plan S d s x e (first (follows_queues_up S.pnp d && keeps_resumes plan S d x) (keeps_next plan S d s x) h))
          (gives_where (follows_queues_up S.pnp d) (keeps_resumes plan S d) (first_cause (by_frame (resume_frames plan S d) ∷ cause_if (resume_cpus plan S d) cause.NoCpu ∷ [])) (resumes_so plan S d)),
      (
        weaker (keeps_next plan S d s) (keeps_step plan S d s) (step_cause plan S d s)
            (λ x h. in_next plan S d s x e (second (follows_queues_up S.pnp d && keeps_resumes plan S d x) (keeps_next plan S d s x) h)) (next_so plan S d s),
        tt,
      ),
    )

running_so : {A : Type 0} (S : State A) (d : ℕ) (s : Step) → Gives (keeps_running S d s) (running_cause S d s)
running_so S d (step.Run c i) = gives_frame (keeps_running S d (step.Run c i)) (frames_where S (runs_step d c)) (λ f h. runs_so S d c f h)
running_so S d (step.Pass s i) = gives_none (keeps_running S d (step.Pass s i))

in_running : {A : Type 0} (plan : Plan) (S : State A) (d : ℕ) (s : Step) (x : Cause) → is_running_step S.pnp d ≡ true → keeps_running S d s x ≡ true → keeps_step plan S d s x ≡ true
in_running plan S d s x e h = rw e h

device_so : {A : Type 0} (plan : Plan) (S : State A) (d : ℕ) (now next : Option Step) → running_step S.pnp d ≡ now → IfThere (LineSo plan S) (sequence_line plan S d now next)
device_so plan S d (Some s) next e =
    so_by plan S (thing.Sequence (handle_in plan S d) s) (running_cause S d s)
    (weaker (keeps_running S d s) (keeps_step plan S d s) (running_cause S d s) (λ x h. in_running plan S d s x (ap is_some e) h) (running_so S d s))
device_so plan S d None (Some s) e = so_by plan S (thing.Sequence (handle_in plan S d) s) (first_cause (resumes_cause plan S d ∷ step_cause plan S d s ∷ [])) (next_line_so plan S d s (ap is_some e))
device_so plan S d None None e = tt

-- ---- the whole list

lines_so : {A : Type 0} (plan : Plan) (S : State A) → PlacesAgree S → OfLines plan S (LineSo plan S)
lines_so plan S k = record {
  frames = λ f there. so_by plan S (frame_line plan S f).thing (frame_cause plan S f) (frame_so plan S f);
  requests = λ r. request_so plan S r (place_of S.requests r) k refl;
  devices = λ d low. device_so plan S d (running_step S.pnp d) (next_step S.pnp d) refl;
  objects = λ o low leaving. so_by plan S (object_line plan S o).thing (object_cause plan S o) (object_so plan S o);
  work = λ o opened. so_by plan S (deferred_line plan S o).thing (deferred_cause plan S o) (deferred_so plan S o);
  asking = λ d. refl;
}

pub line_so : {A : Type 0} (plan : Plan) (m : Meaning A) (run : List Event) → IsRunOf plan m run → ending_of plan m run ≡ ending.Stuck → (k : ℕ) (t : OpenThing) (x : Cause)
    → slice_get (wait_list plan m run) k ≡ Some (record { thing = t; cause = Some x }) → keeps plan (state_after plan m run) t x ≡ true
line_so plan m run is_run ends k t x h =
    each_line plan m run (LineSo plan (state_after plan m run)) (lines_so plan (state_after plan m run) (at_the_end plan m (λ S. PlacesAgree S) run (places_agree plan m run is_run))) ends k (record { thing = t; cause = Some x }) h

off : false ≡ true → ⊥
off h = let z : ⊥ = cc in z

-- a thing of which nothing is so has no cause
nothing_so : {A : Type 0} (plan : Plan) (S : State A) (t : OpenThing) (x : Cause) → has_no_cause t ≡ true → keeps plan S t x ≡ true → ⊥
nothing_so plan S (thing.Owned r) x is h = let z : ⊥ = cc in z
nothing_so plan S (thing.Sent r t) x is h = let z : ⊥ = cc in z
nothing_so plan S (thing.Asking d) x is h = let z : ⊥ = cc in z
nothing_so plan S _ x is h = absurd (off is)

pub line_without : {A : Type 0} (plan : Plan) (m : Meaning A) (run : List Event) → IsRunOf plan m run → ending_of plan m run ≡ ending.Stuck → (k : ℕ) (t : OpenThing) (x : Option Cause)
    → slice_get (wait_list plan m run) k ≡ Some (record { thing = t; cause = x }) → has_no_cause t ≡ true → x ≡ None
line_without plan m run is_run ends k t None h is = refl
line_without plan m run is_run ends k t (Some x) h is = absurd (nothing_so plan (state_after plan m run) t x is (line_so plan m run is_run ends k t x h))
