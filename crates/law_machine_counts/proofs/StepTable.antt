-- Each event that may come keeps the steps' callbacks in step with their frames: a line for each.
use Rattle.std.proofs.Common.{◌≡◌, ℕ, ◌+◌, ◌==◌, true, not, ◌&&◌, List, [], ◌∷◌, ◌++◌, Option, Some, None, refl, ap, sym, subst, ◌∙◌, arith}
use Rattle.std.proofs.lemmas.Bool.{eqb-true}
use Rattle.wdf_base.specs.Meaning.{Meaning}
use Rattle.wdf_base.specs.declared.plan.Plan.{Plan}
use Rattle.wdf_base.specs.declared.ids.Handle.{Handle}
use Rattle.wdf_base.specs.declared.value.Value.{Value}
use Rattle.wdf_base.specs.declared.value.Value.TheVariants.{Num}
use Rattle.wdf_base.specs.declared.call.Call.{Call}
use Rattle.wdf_base.specs.declared.call.Callback.TheVariants as callback
use Rattle.wdf_base.specs.declared.event.Event.{Event}
use Rattle.wdf_base.specs.declared.event.Event.TheVariants as event
use Rattle.wdf_base.specs.declared.event.Stage.{Stage}
use Rattle.wdf_base.specs.declared.event.Step.TheVariants as step
use Rattle.wdf_base.specs.declared.frame.Frame.{Frame}
use Rattle.wdf_base.specs.Same.{same_option, same_step}
use Rattle.wdf_model.specs.Tables.{contains, same_id}
use Rattle.wdf_model.specs.parts.Tree.{may_destroy}
use Rattle.wdf_model.specs.parts.Cpus.{frame_of, irql, is_empty_cpu, nobody_on, top}
use Rattle.wdf_model.specs.parts.Pnp.{is_running_step, next_step}
use Rattle.wdf_model.specs.parts.Pnp as pnp
use Rattle.wdf_model.specs.State.{State, is_proper}
use Rattle.wdf_model.specs.Ids.{frame_id, object_id}
use Rattle.wdf_model.specs.declared.deed.Deed.{Deed}
use Rattle.wdf_model.specs.declared.deed.Deed.TheVariants.{AdvancePower, EndLife, GoOn, TakeStep}
use Rattle.wdf_model.specs.rules.Deeds.{do_deed, do_deeds}
use Rattle.wdf_model.specs.rules.Script.{intent_of}
use Rattle.wdf_model.specs.rules.Calls.{outcome, second_deeds}
use Rattle.wdf_model.specs.rules.Starts.{callback_over, destroy_ready, may_pass, may_start, stage_deeds, stage_effect, stage_ready, step_ready}
use Rattle.wdf_model.specs.rules.Steps.{answered, by_top, deeds, did_deeds, goes_on, is_proper_if_any, may, may_park, may_unpark, spending, stepped, wait_is_over, waiting, waiting_deeds, waits_on, woke_deeds, is_cpu}
use Rattle.law_machine_base.specs.Fits.{all_fit, fits}
use Rattle.wdf_model.proofs.Tests.{both_left, both_right}
use Rattle.law_machine_base.proofs.OwnEvents.{IsDid, IsWaiting, IsWoke, did_tells, end_tells, waiting_tells, woke_tells}
use Rattle.law_machine_base.proofs.FitsOfEvents.{by_its_top, event_fits}
use Rattle.law_machine_counts.proofs.Trees.{rooted_still}
use Rattle.law_machine_counts.proofs.StillDeeds.{all_still, none_behind, outcome_none, post_none, second_none, stage_none}
use Rattle.law_machine_counts.proofs.FrameMoves.{FrameKept, kept_same}
use Rattle.law_machine_counts.proofs.NextFrames.{answered_kept, goes_on_kept, moves, stepped_kept}
use Rattle.law_machine_counts.proofs.StepMoves.{framed_destroyed, steps_stay, taken_passes}
use Rattle.law_machine_counts.proofs.StepStates.{StepsIn, back_in, deeds_stay, fit_before, goes_after, parked_in}
use Rattle.law_machine_counts.proofs.StepEvents.{ends, starts}

-- what an event that may come does to a state
abbrev Keeps : {A : Type 0} → Plan → State A → List Deed → Type 0
Keeps plan S ds = all_fit plan ds S ≡ true → StepsIn S.number S.number S → StepsIn S.number (S.number + 1) (do_deeds plan ds S)

-- ---- a frame that is answered, or waits

on_top : {A : Type 0} (plan : Plan) (S : State A) (cpu f : ℕ) (what : ℕ → Frame → List Deed) (ds : List Deed) (next : Frame) → top S.cpus cpu ≡ Some f → what f (frame_of S.cpus f) ≡ ds ++ GoOn (frame_id f) next ∷ []
    → all_still ds ≡ true → FrameKept (frame_of S.cpus f) next → Keeps plan S (by_top S cpu what)
on_top plan S cpu f what ds next t same still k fit h =
    let e : by_top S cpu what ≡ ds ++ GoOn (frame_id f) next ∷ [] = by_its_top S cpu f what t ∙ same in
    subst (λ es. StepsIn S.number (S.number + 1) (do_deeds plan es S)) (sym e)
    (goes_after plan ds S f next S.number S.number (S.number + 1) (omega arith) still
    (fit_before plan ds (GoOn (frame_id f) next ∷ []) S (subst (λ es. all_fit plan es S ≡ true) e fit)) k h)

did_keeps : {A : Type 0} (plan : Plan) (S : State A) (cpu : ℕ) (c : Call) (v : Value) → IsDid plan S cpu c v → Keeps plan S (by_top S cpu (did_deeds plan S cpu c v))
did_keeps plan S cpu c v d =
    on_top plan S cpu d.frame (did_deeds plan S cpu c v) ((outcome plan S cpu d.frame c).deeds ++ second_deeds d.frame c) (answered plan (frame_of S.cpus d.frame) v) d.about.top refl
    (none_behind (outcome plan S cpu d.frame c).deeds (second_deeds d.frame c) (outcome_none plan S cpu d.frame c) (second_none d.frame c))
    (answered_kept plan (frame_of S.cpus d.frame) v)

waiting_keeps : {A : Type 0} (plan : Plan) (S : State A) (cpu : ℕ) (c : Call) → IsWaiting plan S cpu c → Keeps plan S (by_top S cpu (waiting_deeds plan S cpu c))
waiting_keeps plan S cpu c d =
    on_top plan S cpu d.frame (waiting_deeds plan S cpu c) (outcome plan S cpu d.frame c).deeds (waiting (frame_of S.cpus d.frame) c (outcome plan S cpu d.frame c).answer) d.about.top refl
    (outcome_none plan S cpu d.frame c) (record { callback = refl; object = refl; device = refl })

woke_keeps : {A : Type 0} (plan : Plan) (S : State A) (cpu : ℕ) (c : Call) (v : Value) → IsWoke S cpu c v → Keeps plan S (by_top S cpu (woke_deeds plan c v))
woke_keeps plan S cpu c v d =
    on_top plan S cpu d.frame (woke_deeds plan c v) (second_deeds d.frame c) (answered plan (frame_of S.cpus d.frame) v) d.top refl
    (second_none d.frame c) (answered_kept plan (frame_of S.cpus d.frame) v)

-- ---- a frame parks, or comes back

pub top_is : (t : Option ℕ) (f : ℕ) → same_id t f ≡ true → t ≡ Some f
top_is None f h = absurd (let z : ⊥ = cc in z)
top_is (Some g) f h = ap Some (eqb-true g f h)

parks_it : {A : Type 0} (plan : Plan) (S : State A) (cpu f : ℕ) → may_park S cpu f ≡ true → StepsIn S.number S.number S → StepsIn S.number (S.number + 1) (do_deeds plan (deeds plan S (event.Park (record { 0 = cpu }) (record { 0 = f }))) S)
parks_it plan S cpu f may_come h =
    parked_in plan S cpu f S.number S.number (S.number + 1) (omega arith)
    (top_is (top S.cpus cpu) f (both_left (same_id (top S.cpus cpu) f) (irql S.cpus cpu == 0) (both_left (same_id (top S.cpus cpu) f && irql S.cpus cpu == 0) (waits_on S (frame_of S.cpus f).pending) may_come))) h

comes_back : {A : Type 0} (plan : Plan) (S : State A) (cpu f : ℕ) → may_unpark S cpu f ≡ true → StepsIn S.number S.number S → StepsIn S.number (S.number + 1) (do_deeds plan (deeds plan S (event.Unpark (record { 0 = cpu }) (record { 0 = f }))) S)
comes_back plan S cpu f may_come h =
    back_in plan S cpu f S.number S.number (S.number + 1) (omega arith)
    (both_left (contains f S.cpus.parked) (is_empty_cpu S.cpus cpu) (both_left (contains f S.cpus.parked && is_empty_cpu S.cpus cpu) (wait_is_over S (frame_of S.cpus f).pending) may_come)) h

-- ---- a stage is passed, or an object ends

stage_keeps : {A : Type 0} (plan : Plan) (S : State A) (d : ℕ) (s : Stage) (i : Option Handle) → may_pass plan S d s i ≡ true → Keeps plan S (stage_deeds plan d s i)
stage_keeps plan S d s i may_come fit h =
    let ready : step_ready S d (step.Pass s i) ≡ true = both_left (step_ready S d (step.Pass s i)) (stage_ready plan S d s i) may_come in
    let next : same_option same_step (next_step S.pnp d) (Some (step.Pass s i)) ≡ true
    = both_left (same_option same_step (next_step S.pnp d) (Some (step.Pass s i))) (not (is_running_step S.pnp d))
    (both_left (same_option same_step (next_step S.pnp d) (Some (step.Pass s i)) && not (is_running_step S.pnp d)) _ ready) in
    deeds_stay plan (AdvancePower (object_id d) (step.Pass s i) ∷ stage_effect plan d s i) (do_deed plan (TakeStep (object_id d)) S) S.number S.number (S.number + 1) (omega arith) (stage_none plan d s i)
    (both_right (fits plan (TakeStep (object_id d)) S) _ fit)
    (record {
      number = refl;
      framed = h.framed;
      rooted = h.rooted;
      stepping = steps_stay S.cpus S.cpus S.pnp (pnp.taken S.pnp d) (λ x is. kept_same (frame_of S.cpus x) (frame_of S.cpus x) refl) (λ p. refl) (λ x. taken_passes S.pnp d s i x next) h.stepping;
    })

life_keeps : {A : Type 0} (plan : Plan) (S : State A) (o : ℕ) → destroy_ready S o ≡ true → Keeps plan S (EndLife (object_id o) ∷ [])
life_keeps plan S o ready fit h =
    let k = framed_destroyed S.cpus S.tree S.number o h.rooted (both_left (may_destroy S.tree o) (nobody_on S.cpus o) ready) (both_right (may_destroy S.tree o) (nobody_on S.cpus o) ready) h.framed in
    record {
      number = refl;
      framed = record { once = k.once; old = λ x is. let e = k.old x is in omega arith; known = k.known; there = k.there };
      rooted = rooted_still S.tree o h.rooted;
      stepping = h.stepping;
    }

-- ---- all events

stays : {A : Type 0} (plan : Plan) (S : State A) (ds : List Deed) → all_still ds ≡ true → Keeps plan S ds
stays plan S ds still fit h = deeds_stay plan ds S S.number S.number (S.number + 1) (omega arith) still fit h

each_event : {A : Type 0} (plan : Plan) (m : Meaning A) (S : State A) (e : Event) → may plan m S e ≡ true → Keeps plan S (deeds plan S e)
each_event plan m S (event.Start k c o r) may_come fit h =
    starts plan m S k.0 c o r (both_right (is_cpu plan k && is_proper plan S o && is_proper_if_any plan S r) (may_start plan m S k.0 c o.id.0 r) may_come) fit h
each_event plan m S (event.Local k line) may_come fit h = moves plan S (λ a. stepped a (intent_of plan a)) S.number S.number (S.number + 1) (top S.cpus k.0) (omega arith) (λ a. stepped_kept a (intent_of plan a)) h
each_event plan m S (event.Log k v) may_come fit h = moves plan S (λ a. goes_on plan a) S.number S.number (S.number + 1) (top S.cpus k.0) (omega arith) (λ a. goes_on_kept plan a) h
each_event plan m S (event.Spend k n) may_come fit h = moves plan S (λ a. spending plan S a n) S.number S.number (S.number + 1) (top S.cpus k.0) (omega arith)
    (λ a. let e : FrameKept a (goes_on plan a) = goes_on_kept plan a in record { callback = e.callback; object = e.object; device = e.device }) h
each_event plan m S (event.Register k a r v) may_come fit h = moves plan S (λ x. answered plan x (Num v)) S.number S.number (S.number + 1) (top S.cpus k.0) (omega arith) (λ x. answered_kept plan x (Num v)) h
each_event plan m S (event.Did k c v) may_come fit h = did_keeps plan S k.0 c v (did_tells plan m S k c v may_come) fit h
each_event plan m S (event.Waiting k c) may_come fit h = waiting_keeps plan S k.0 c (waiting_tells plan m S k c may_come) fit h
each_event plan m S (event.Woke k c v) may_come fit h = woke_keeps plan S k.0 c v (woke_tells plan m S k c v may_come) fit h
each_event plan m S (event.Park k f) may_come fit h = parks_it plan S k.0 f.0 may_come h
each_event plan m S (event.Unpark k f) may_come fit h = comes_back plan S k.0 f.0 (both_right (is_cpu plan k) (may_unpark S k.0 f.0) may_come) h
each_event plan m S (event.End k c o v) may_come fit h = ends plan S k.0 c o v (end_tells plan m S k c o v may_come) S.number h fit
each_event plan m S (event.Fault k x line) may_come fit h = stays plan S [] refl refl h
each_event plan m S (event.Stage d s i) may_come fit h = stage_keeps plan S d.id.0 s i (both_right (is_proper plan S d) (may_pass plan S d.id.0 s i) may_come) fit h
each_event plan m S (event.Complete r s) may_come fit h = stays plan S (deeds plan S (event.Complete r s)) refl fit h
each_event plan m S (event.Cleanup o) may_come fit h = stays plan S (deeds plan S (event.Cleanup o)) refl fit h
each_event plan m S (event.Destroy o) may_come fit h =
    life_keeps plan S o.id.0 (both_right (is_proper plan S o) (destroy_ready S o.id.0) (both_left (is_proper plan S o && destroy_ready S o.id.0) (callback_over plan S callback.EvtDestroyCallback o.id.0) may_come)) fit h
each_event plan m S (event.Posted agent p answer) may_come fit h = stays plan S (deeds plan S (event.Posted agent p answer)) (post_none plan S agent p) fit h
each_event plan m S (event.Tick time) may_come fit h = stays plan S (deeds plan S (event.Tick time)) refl refl h

pub event_keeps_steps : {A : Type 0} (plan : Plan) (m : Meaning A) (S : State A) (e : Event) → may plan m S e ≡ true → StepsIn S.number S.number S → StepsIn S.number (S.number + 1) (do_deeds plan (deeds plan S e) S)
event_keeps_steps plan m S e may_come h = each_event plan m S e may_come (event_fits plan m S e may_come) h

pub tick_keeps_steps : {A : Type 0} (plan : Plan) (S : State A) (time : ℕ) → StepsIn S.number S.number S → StepsIn S.number (S.number + 1) (do_deeds plan (deeds plan S (event.Tick time)) S)
tick_keeps_steps plan S time h = stays plan S (deeds plan S (event.Tick time)) refl refl h
