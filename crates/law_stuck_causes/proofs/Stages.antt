-- A stage that a device waits for always has a cause, and so has each line of which that is said.
use Rattle.law_stuck_causes.proofs.Works.{work_named}
use Rattle.std.proofs.Common.{◌≡◌, inl, inr, ℕ, ◌==◌, ◌<◌, slice_get, Bool, true, false, not, ◌&&◌, ◌||◌, List, [], ◌∷◌, Option, Some, None, is_some, filter, length, refl, ap, ◌∙◌, arith}
use Rattle.std.specs.List.{flat_map, list_all, list_any}
use Rattle.wdf_base.specs.declared.plan.Plan.{Plan}
use Rattle.wdf_base.specs.declared.object.Place.{Place}
use Rattle.wdf_base.specs.declared.object.Place.TheVariants as place
use Rattle.wdf_base.specs.declared.wait.Cause.TheVariants as cause
use Rattle.wdf_base.specs.declared.wait.WaitLine.{WaitLine}
use Rattle.wdf_model.specs.Ids.{frame_id}
use Rattle.wdf_model.specs.Tables.{ids_of}
use Rattle.wdf_model.specs.parts.Cpus.{all_frames, is_on}
use Rattle.wdf_model.specs.parts.Locks.{hold_of, holder, object_lock}
use Rattle.wdf_model.specs.parts.Requests.{place_of}
use Rattle.wdf_model.specs.State.{State, held_from, handle_in}
use Rattle.wdf_model.specs.rules.Waits.{by_frame, cause_if, request_line}
use Rattle.wdf_model.proofs.Tests.{both, both_left, both_right, either_false, first, itself}
use Rattle.law_stuck_causes.proofs.Members.{Has, no_entry}
use Rattle.law_stuck_causes.proofs.Gives.{IfThere}
use Rattle.wdf_base.specs.Meaning.{Meaning}
use Rattle.wdf_base.specs.declared.event.Event.{Event}
use Rattle.wdf_base.specs.declared.event.Event.TheVariants as event
use Rattle.wdf_model.specs.declared.enums.Group.TheVariants as group
use Rattle.wdf_model.specs.parts.Cpus.{nobody_on}
use Rattle.wdf_model.specs.State.{is_proper, nothing_at}
use Rattle.wdf_model.specs.rules.Groups.{candidate, candidates}
use Rattle.wdf_model.specs.rules.Steps.{may}
use Rattle.wdf_model.specs.rules.Waits.{first_cause}
use Rattle.law_stuck_causes.specs.Caused.{names_a_cause}
use Rattle.law_stuck_causes.proofs.Members.{has_range}
use Rattle.law_stuck_causes.proofs.Endings.{AtRest, may_not}
use Rattle.wdf_base.specs.declared.ids.Handle.{Handle}
use Rattle.wdf_base.specs.Same.{same_handle, same_option, same_stage, same_step}
use Rattle.wdf_model.proofs.Sames.{handle_decides}
use Rattle.wdf_base.specs.declared.event.Ending.TheVariants as ending
use Rattle.wdf_base.specs.declared.event.Stage.{Stage}
use Rattle.wdf_base.specs.declared.event.Stage.TheVariants as stage
use Rattle.wdf_base.specs.declared.event.Step.{Step}
use Rattle.wdf_base.specs.declared.event.Step.TheVariants as step
use Rattle.wdf_base.specs.Places.{is_sent_to}
use Rattle.wdf_model.specs.declared.entries.Request.{Request}
use Rattle.wdf_model.specs.Plans.{managed_queues}
use Rattle.wdf_model.specs.parts.Requests.{no_request, request_of}
use Rattle.wdf_model.specs.parts.Power.{unsettled}
use Rattle.wdf_model.specs.parts.Pnp.{follows_queues_up, is_running_step, next_step, running_step}
use Rattle.wdf_model.specs.parts.Queues.{held_count}
use Rattle.wdf_model.specs.rules.Ready.{IsRunOf, ending_of, state_after}
use Rattle.wdf_model.specs.rules.Starts.{handle_id, is_drained, is_unfinished_at, may_pass, resumes_over, stage_ready, step_ready, targets_at}
use Rattle.wdf_model.specs.rules.Groups.{declared_end}
use Rattle.wdf_model.specs.rules.Waits.{by_request, next_step_line, resumes_cause, sequence_line, stage_cpus, stage_frames, stage_requests, step_cause, wait_list}
use Rattle.law_stuck_causes.specs.Caused.{is_stage}
use Rattle.law_stuck_causes.proofs.Members.{none_passes}
use Rattle.law_stuck_causes.proofs.Endings.{at_rest}
use Rattle.law_stuck_causes.proofs.EachLine.{OfLines, each_line}
use Rattle.law_stuck_causes.proofs.Tops.{frame_named, held_now}
use Rattle.law_stuck_causes.proofs.Needs.{front_none, framework_group, none_first, none_least, none_there, object_named, placed_at, some_or, unheld, free_hold}
use Rattle.law_machine_counts.proofs.Sames.{stage_decides}

-- ---- lists

settled_by : {A : Type 0} (S : State A) (qs : List ℕ) → flat_map (λ q. filter (is_on S.cpus q) (all_frames S.cpus)) qs ≡ [] → list_all (nobody_on S.cpus) qs ≡ true
settled_by S [] h = refl
settled_by S (q ∷ qs) h =
    let parts = front_none (filter (is_on S.cpus q) (all_frames S.cpus)) (flat_map (λ x. filter (is_on S.cpus x) (all_frames S.cpus)) qs) h in
    both (nobody_on S.cpus q) (list_all (nobody_on S.cpus) qs) (none_there S q parts.0) (settled_by S qs parts.1)

pub none_of : (p : ℕ → Bool) (xs : List ℕ) → list_any p xs ≡ false → (x : ℕ) → Has x xs → p x ≡ false
none_of p [] h x k = absurd k
none_of p (y ∷ ys) h x (inl e) = ap p e ∙ (either_false (p y) (list_any p ys) h).0
none_of p (y ∷ ys) h x (inr k) = none_of p ys (either_false (p y) (list_any p ys) h).1 x k

pub each_one : (p : ℕ → Bool) (xs : List ℕ) → ((x : ℕ) → Has x xs → p x ≡ true) → list_all p xs ≡ true
each_one p [] h = refl
each_one p (x ∷ xs) h = both (p x) (list_all p xs) (h x (inl refl)) (each_one p xs (λ y k. h y (inr k)))

-- ---- stages

pub handle_itself : (i : Option Handle) → same_option same_handle i i ≡ true
handle_itself None = refl
handle_itself (Some h) = (handle_decides h h).1 refl

stage_itself : (s : Stage) (i : Option Handle) → same_step (step.Pass s i) (step.Pass s i) ≡ true
stage_itself s i = both (same_stage s s) (same_option same_handle i i) ((stage_decides s s).1 refl) (handle_itself i)

drained_by : {A : Type 0} (plan : Plan) (S : State A) (d : ℕ) → stage_requests plan S d stage.Removed ≡ [] → is_drained plan S d ≡ true
drained_by plan S d h =
    let none : (r : ℕ) → r < length S.requests.all → (is_unfinished_at d (request_of S.requests r) ≡ false) × (list_any (λ t. is_sent_to t (place_of S.requests r)) (targets_at plan d) ≡ false) =
    λ r low. either_false (is_unfinished_at d (request_of S.requests r)) (list_any (λ t. is_sent_to t (place_of S.requests r)) (targets_at plan d))
    (none_passes (λ x. is_unfinished_at d (request_of S.requests x) || list_any (λ t. is_sent_to t (place_of S.requests x)) (targets_at plan d)) (ids_of S.requests.all) h r (has_range r 0 (length S.requests.all) (omega arith) (omega arith))) in
    both (not (list_any (is_unfinished_at d) S.requests.all)) (list_all (nothing_at S) (targets_at plan d))
    (ap not (no_entry no_request (is_unfinished_at d) S.requests.all (λ r low. (none r low).0)))
    (each_one (nothing_at S) (targets_at plan d)
    (λ t there. ap not (no_entry no_request (λ (r : Request). is_sent_to t r.place) S.requests.all (λ r low. none_of (λ u. is_sent_to u (place_of S.requests r)) (targets_at plan d) (none r low).1 t there))))

ready_by : {A : Type 0} (plan : Plan) (S : State A) (d : ℕ) (s : Stage) (i : Option Handle) → is_stage (step.Pass s i) ≡ true → stage_requests plan S d s ≡ [] → stage_frames plan S d s i ≡ [] → stage_ready plan S d s i ≡ true
ready_by plan S d stage.Settled i is rs fs = both (length (unsettled S.power d) == 0) (list_all (nobody_on S.cpus) (managed_queues plan d)) (rw rs refl) (settled_by S (managed_queues plan d) fs)
ready_by plan S d stage.Disabled i is rs fs = free_hold (hold_of S.locks (object_lock (handle_id i))) (unheld (holder S.locks (object_lock (handle_id i))) fs)
ready_by plan S d stage.Removed i is rs fs = drained_by plan S d rs
ready_by plan S d stage.Quiet i is rs fs = absurd (let z : ⊥ = cc in z)
ready_by plan S d _ i is rs fs = refl

-- a step that isn't kept by the step before it
pub stepping : {A : Type 0} (S : State A) (d : ℕ) (s : Step) → same_step s s ≡ true → next_step S.pnp d ≡ Some s → not (is_running_step S.pnp d) ≡ true → (not (follows_queues_up S.pnp d) || resumes_over S d) ≡ true → step_ready S d s ≡ true
stepping S d s same next calm free =
    both (same_option same_step (next_step S.pnp d) (Some s) && not (is_running_step S.pnp d)) (not (follows_queues_up S.pnp d) || resumes_over S d)
    (both (same_option same_step (next_step S.pnp d) (Some s)) (not (is_running_step S.pnp d)) (rw next same) calm) free

-- a stage that is ready comes
pub stage_comes : {A : Type 0} (plan : Plan) (m : Meaning A) (S : State A) → AtRest plan m S true → (d : ℕ) (s : Stage) (i : Option Handle) → d < declared_end plan → next_step S.pnp d ≡ Some (step.Pass s i)
    → not (is_running_step S.pnp d) ≡ true → (not (follows_queues_up S.pnp d) || resumes_over S d) ≡ true → stage_ready plan S d s i ≡ true → ⊥
stage_comes plan m S rest d s i low next calm free ready =
    let e0 : Event = event.Stage (handle_in plan S d) s i in
    let here : candidate plan m S group.Stages d ≡ Some e0 = rw next refl in
    let offered : Has e0 (candidates plan m S) = framework_group plan m S group.Stages e0 (inl refl) (placed_at plan m S group.Stages (declared_end plan) d e0 low here) in
    let no : may plan m S e0 ≡ false = may_not plan m S true e0 rest offered in
    let yes : may plan m S e0 ≡ true =
    both (is_proper plan S (handle_in plan S d)) (may_pass plan S d s i) (itself (handle_in plan S d).name)
    (both (step_ready S d (step.Pass s i)) (stage_ready plan S d s i) (stepping S d (step.Pass s i) (stage_itself s i) next calm free) ready) in
    let z : ⊥ = cc in z

stage_waits : {A : Type 0} (plan : Plan) (m : Meaning A) (S : State A) → AtRest plan m S true → (d : ℕ) (s : Stage) (i : Option Handle) → d < declared_end plan → next_step S.pnp d ≡ Some (step.Pass s i)
    → is_stage (step.Pass s i) ≡ true → not (is_running_step S.pnp d) ≡ true → not (follows_queues_up S.pnp d) ≡ true → step_cause plan S d (step.Pass s i) ≡ None → ⊥
stage_waits plan m S rest d s i low next is calm early h =
    let one = none_first (by_request plan S (stage_requests plan S d s)) (by_frame (stage_frames plan S d s i) ∷ cause_if (stage_cpus plan S d s) cause.NoCpu ∷ []) h in
    let two = none_first (by_frame (stage_frames plan S d s i)) (cause_if (stage_cpus plan S d s) cause.NoCpu ∷ []) one.1 in
    let rs = none_least (λ r. cause.ByRequest (handle_in plan S r)) (stage_requests plan S d s) one.0 in
    let fs = none_least (λ f. cause.ByFrame (frame_id f)) (stage_frames plan S d s i) two.0 in
    stage_comes plan m S rest d s i low next calm (first (not (follows_queues_up S.pnp d)) (resumes_over S d) early) (ready_by plan S d s i is rs fs)

-- ---- the lines

abbrev Named : {A : Type 0} → Plan → State A → WaitLine → Type 0
Named plan S l = names_a_cause plan S l.thing ≡ true → is_some l.cause ≡ true

stage_named : {A : Type 0} (plan : Plan) (m : Meaning A) (S : State A) → AtRest plan m S true → (d : ℕ) (s : Step) → d < declared_end plan → next_step S.pnp d ≡ Some s → Named plan S (next_step_line plan S d s)
stage_named plan m S rest d (step.Run c i) low next h = absurd (let z : ⊥ = cc in z)
stage_named plan m S rest d (step.Pass s i) low next h =
    let front = both_left (is_stage (step.Pass s i) && not (is_running_step S.pnp d)) (not (follows_queues_up S.pnp d)) h in
    some_or (first_cause (resumes_cause plan S d ∷ step_cause plan S d (step.Pass s i) ∷ []))
    (λ none.
    let parts = none_first (resumes_cause plan S d) (step_cause plan S d (step.Pass s i) ∷ []) none in
    stage_waits plan m S rest d s i low next (both_left (is_stage (step.Pass s i)) (not (is_running_step S.pnp d)) front) (both_right (is_stage (step.Pass s i)) (not (is_running_step S.pnp d)) front)
    (both_right (is_stage (step.Pass s i) && not (is_running_step S.pnp d)) (not (follows_queues_up S.pnp d)) h)
    (none_first (step_cause plan S d (step.Pass s i)) [] parts.1).0)

running_off : (a c : Bool) (s : Option Step) (t : Step) → s ≡ Some t → (a && not (is_some s) && c) ≡ true → ⊥
running_off true c None t e h = let z : ⊥ = cc in z
running_off true c (Some u) t e h = let z : ⊥ = cc in z
running_off false c s t e h = let z : ⊥ = cc in z

device_named : {A : Type 0} (plan : Plan) (m : Meaning A) (S : State A) → AtRest plan m S true → (d : ℕ) → d < declared_end plan → (now next : Option Step) → running_step S.pnp d ≡ now → next_step S.pnp d ≡ next → IfThere (Named plan S) (sequence_line plan S d now next)
device_named plan m S rest d low (Some s) next e k = λ h. absurd (running_off (is_stage s) (not (follows_queues_up S.pnp d)) (running_step S.pnp d) s e h)
device_named plan m S rest d low None (Some s) e k = stage_named plan m S rest d s low k
device_named plan m S rest d low None None e k = tt

request_unnamed : {A : Type 0} (plan : Plan) (S : State A) (r : ℕ) (p : Place) → IfThere (Named plan S) (request_line plan S r p)
request_unnamed plan S r (place.Closing s) = tt
request_unnamed plan S r place.Done = tt
request_unnamed plan S r _ = λ h. absurd (let z : ⊥ = cc in z)

lines_named : {A : Type 0} (plan : Plan) (m : Meaning A) (S : State A) → AtRest plan m S true → ((q : ℕ) → held_count S.queues q ≡ length (held_from S q)) → OfLines plan S (Named plan S)
lines_named plan m S rest held = record {
  frames = λ f there h. frame_named plan m S rest held f h;
  requests = λ r. request_unnamed plan S r (place_of S.requests r);
  devices = λ d low. device_named plan m S rest d low (running_step S.pnp d) (next_step S.pnp d) refl refl;
  objects = λ o low leaving. object_named plan m S rest o low leaving;
  work = λ o opened h. work_named plan m S rest o opened h;
  asking = λ d h. absurd (let z : ⊥ = cc in z);
}

pub line_named : {A : Type 0} (plan : Plan) (m : Meaning A) (run : List Event) → IsRunOf plan m run → ending_of plan m run ≡ ending.Stuck → (k : ℕ) (l : WaitLine)
    → slice_get (wait_list plan m run) k ≡ Some l → names_a_cause plan (state_after plan m run) l.thing ≡ true → is_some l.cause ≡ true
line_named plan m run is_run ends k l h = each_line plan m run (Named plan (state_after plan m run)) (lines_named plan m (state_after plan m run) (at_rest plan m run true ends) (held_now plan m run is_run)) ends k l h
