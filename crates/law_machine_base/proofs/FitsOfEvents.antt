-- The deeds of each event that may follow fit where they are done.
use Rattle.std.proofs.Common.{if◌then◌else◌, ◌≡◌, ℕ, ◌==◌, nat_lt, Bool, true, false, not, ◌&&◌, ◌||◌, List, [], ◌∷◌, ◌++◌, Option, Some, None, is_some, option_and_then, refl, arith}
use Rattle.std.proofs.lemmas.Bool.Decides.{nat_tests}
use Rattle.wdf_base.specs.Meaning.{Meaning}
use Rattle.wdf_base.specs.declared.ids.Cpu.{Cpu}
use Rattle.wdf_base.specs.declared.ids.Handle.{Handle}
use Rattle.wdf_base.specs.declared.value.Status.{Status}
use Rattle.wdf_base.specs.declared.value.Status.TheVariants as status
use Rattle.wdf_base.specs.declared.value.Value.{Value}
use Rattle.wdf_base.specs.declared.value.Value.TheVariants.{Num}
use Rattle.wdf_base.specs.declared.object.Place.{Place}
use Rattle.wdf_base.specs.declared.object.Place.TheVariants as place
use Rattle.wdf_base.specs.declared.object.LockRef.{LockRef}
use Rattle.wdf_base.specs.declared.object.RequestForm.{RequestForm}
use Rattle.wdf_base.specs.declared.object.RequestForm.TheVariants as form
use Rattle.wdf_base.specs.declared.call.Arg.{Arg}
use Rattle.wdf_base.specs.declared.call.Call.{Call}
use Rattle.wdf_base.specs.declared.call.CallKind.{CallKind}
use Rattle.wdf_base.specs.declared.call.CallKind.TheVariants as call
use Rattle.wdf_base.specs.declared.call.Callback.{Callback}
use Rattle.wdf_base.specs.declared.rank.Rank.{Rank}
use Rattle.wdf_base.specs.declared.rank.Rank.TheVariants as rank
use Rattle.wdf_base.specs.declared.plan.Plan.{Plan}
use Rattle.wdf_base.specs.declared.event.Event.{Event}
use Rattle.wdf_base.specs.declared.event.Event.TheVariants as event
use Rattle.wdf_base.specs.declared.event.Post.{Post}
use Rattle.wdf_base.specs.declared.event.Post.TheVariants as post
use Rattle.wdf_base.specs.declared.event.Stage.{Stage}
use Rattle.wdf_base.specs.declared.event.Stage.TheVariants as stage
use Rattle.wdf_base.specs.declared.event.Step.{Step}
use Rattle.wdf_base.specs.declared.event.Step.TheVariants as step
use Rattle.wdf_base.specs.declared.frame.Frame.{Frame}
use Rattle.wdf_base.specs.Callbacks.{row_of}
use Rattle.wdf_base.specs.declared.call.Callback.TheVariants as callback
use Rattle.wdf_base.specs.Same.{same_handle, same_option, same_post, same_step}
use Rattle.wdf_base.specs.Lives.{is_live}
use Rattle.wdf_base.specs.Places.{is_closing, is_done, is_sent, is_sent_to}
use Rattle.wdf_model.specs.Plans.{callback_irql, queue_for, has_handler, is_manual_queue, queue_of, target_of_agent}
use Rattle.wdf_model.specs.parts.Tree.{life_of, nearest_device}
use Rattle.wdf_model.specs.parts.Cpus.{frame_of, top}
use Rattle.wdf_model.specs.parts.Locks.{is_free_if_any, is_free_lock, lock_of_callback}
use Rattle.wdf_model.specs.parts.Requests.{arrival_of, place_of}
use Rattle.wdf_model.specs.parts.Control.{accepts}
use Rattle.wdf_model.specs.parts.Pnp.{is_running_step, next_step}
use Rattle.wdf_model.specs.State.{State, declared_in, declares_in, is_proper, is_with_driver}
use Rattle.wdf_model.specs.Ids.{cpu_of, frame_id, irql_of, object_id}
use Rattle.wdf_model.specs.declared.deed.Deed.{Deed}
use Rattle.wdf_model.specs.declared.deed.Deed.TheVariants.{Arrive, CountArrival, GoOn, PopFrame, PushFrame}
use Rattle.wdf_model.specs.rules.Deeds.{do_deed, do_deeds}
use Rattle.wdf_model.specs.rules.Script.{intent_of}
use Rattle.wdf_model.specs.rules.Calls.{is_met, outcome, second_deeds, is_met_then}
use Rattle.wdf_model.specs.rules.Starts.{callback_over, clean_ready, destroy_ready, effect, effect_for, end_deeds, end_of_step, is_ready_for, level_fits, life_fits, may_pass, may_start, new_frame, next_number, rank_ready, rank_ready_for, release_if_any, stage_deeds, stage_effect, stage_ready, start_deeds, start_effect, step_of, step_ready, take_if_any}
use Rattle.wdf_model.specs.rules.Posts.{arrival_deeds, arrival_info, arrival_place, cancel_at, cancel_deeds, due_of, in_reach, is_data, may_finish, place_if_any, place_in_queue, post_answer, post_deeds, post_fits, takes_empty}
use Rattle.wdf_model.specs.rules.Steps.{answered, by_top, did_deeds, goes_on, spending, stepped, waiting, waiting_deeds, woke_deeds, deeds, is_closing_with, is_own_event, is_proper_if_any, may, is_cpu}
use Rattle.law_machine_base.specs.Fits.{all_fit, is_arrival_place}
use Rattle.wdf_model.proofs.Tests.{alone, both, both_left, both_right, either_false, first, itself}
use Rattle.law_machine_base.proofs.OwnEvents.{IsDid, IsWaiting, IsWoke, did_tells, waiting_tells, woke_tells}
use Rattle.law_machine_base.proofs.Fits.{fit_behind}
use Rattle.law_machine_base.proofs.FitsOfCalls.{outcome_fits}

-- ---- starts

sent_somewhere : (t : ℕ) (p : Place) → is_sent_to t p ≡ true → is_sent p ≡ true
sent_somewhere t (place.Sent u) h = refl
sent_somewhere t _ h = h

there_is : (found : Option Step) (s : Step) → same_option same_step found (Some s) ≡ true → is_some found ≡ true
there_is None s h = h
there_is (Some x) s h = refl

step_fits : {A : Type 0} (S : State A) (d : ℕ) (s : Step) → step_ready S d s ≡ true → (is_some (next_step S.pnp d) && not (is_running_step S.pnp d)) ≡ true
step_fits S d s h = both (is_some (next_step S.pnp d)) (not (is_running_step S.pnp d)) (there_is (next_step S.pnp d) s (search (both_left, both_right))) (search (both_left, both_right))

effect_for_fits : {A : Type 0} (plan : Plan) (S : State A) (k : Rank) (c : Callback) (o r : ℕ) → rank_ready_for plan S k c o r ≡ true → all_fit plan (effect_for k o r) S ≡ true
effect_for_fits plan S rank.Completion c o r h =
    alone _ (both (is_sent (place_of S.requests r)) _ (sent_somewhere o (place_of S.requests r) (both_left (is_sent_to o (place_of S.requests r)) _ h)) (both_right (is_sent_to o (place_of S.requests r)) _ h))
effect_for_fits plan S rank.Cancel c o r h = alone _ (both _ (is_with_driver S r) (search (both_left, both_right)) (search (both_left, both_right)))
effect_for_fits plan S rank.CanceledOnQueue c o r h = alone _ h
effect_for_fits plan S rank.Stop c o r h = alone _ (both (is_with_driver S r) _ (search (both_left, both_right)) (search (both_left, both_right)))
effect_for_fits plan S rank.Resume c o r h = alone _ (both (is_with_driver S r) _ (search (both_left, both_right)) (search (both_left, both_right)))
effect_for_fits plan S rank.Handler c o r h = alone _ (search (both_left, both_right))
effect_for_fits plan S _ c o r h = refl

effect_fits : {A : Type 0} (plan : Plan) (m : Meaning A) (S : State A) (k : Rank) (cpu : ℕ) (c : Callback) (o : ℕ) → rank_ready plan m S k cpu c o ≡ true → all_fit plan (effect plan S k cpu c o) S ≡ true
effect_fits plan m S rank.Sequence cpu c o h = alone _ (step_fits S (nearest_device S.tree o) (step_of plan S c o) h)
effect_fits plan m S rank.Cleanup cpu c o h = alone _ (search (both_left, both_right))
effect_fits plan m S rank.Destroy cpu c o h = alone _ (search (both_left, both_right))
effect_fits plan m S _ cpu c o h = refl

start_effect_fits : {A : Type 0} (plan : Plan) (m : Meaning A) (S : State A) (cpu : ℕ) (c : Callback) (o : ℕ) (r : Option Handle) → is_ready_for plan m S cpu c o r ≡ true
    → all_fit plan (start_effect plan S cpu c o r) S ≡ true
start_effect_fits plan m S cpu c o None h = effect_fits plan m S (row_of c).rank cpu c o h
start_effect_fits plan m S cpu c o (Some r) h = effect_for_fits plan S (row_of c).rank c o r.id.0 h

effect_for_locks : {A : Type 0} (plan : Plan) (S : State A) (k : Rank) (o r : ℕ) → (do_deeds plan (effect_for k o r) S).locks ≡ S.locks
effect_for_locks plan S rank.Completion o r = refl
effect_for_locks plan S rank.Cancel o r = refl
effect_for_locks plan S rank.CanceledOnQueue o r = refl
effect_for_locks plan S rank.Stop o r = refl
effect_for_locks plan S rank.Resume o r = refl
effect_for_locks plan S rank.Handler o r = refl
effect_for_locks plan S _ o r = refl

effect_locks : {A : Type 0} (plan : Plan) (S : State A) (k : Rank) (cpu : ℕ) (c : Callback) (o : ℕ) → (do_deeds plan (effect plan S k cpu c o) S).locks ≡ S.locks
effect_locks plan S rank.Deferred cpu c o = refl
effect_locks plan S rank.Timed cpu c o = refl
effect_locks plan S rank.QueueState cpu c o = refl
effect_locks plan S rank.Sequence cpu c o = refl
effect_locks plan S rank.Work cpu c o = refl
effect_locks plan S rank.Cleanup cpu c o = refl
effect_locks plan S rank.Destroy cpu c o = refl
effect_locks plan S _ cpu c o = refl

start_effect_locks : {A : Type 0} (plan : Plan) (S : State A) (cpu : ℕ) (c : Callback) (o : ℕ) (r : Option Handle) → (do_deeds plan (start_effect plan S cpu c o r) S).locks ≡ S.locks
start_effect_locks plan S cpu c o None = effect_locks plan S (row_of c).rank cpu c o
start_effect_locks plan S cpu c o (Some r) = effect_for_locks plan S (row_of c).rank o r.id.0

taking_fits : {A : Type 0} (plan : Plan) (S T : State A) (f : ℕ) (l : Option LockRef) → T.locks ≡ S.locks → is_free_if_any S.locks l ≡ true → all_fit plan (take_if_any f l) T ≡ true
taking_fits plan S T f None same h = refl
taking_fits plan S T f (Some l) same h = rw same (alone (is_free_lock S.locks l) h)

start_fits : {A : Type 0} (plan : Plan) (m : Meaning A) (S : State A) (cpu : ℕ) (c : Callback) (o : Handle) (r : Option Handle) → may_start plan m S cpu c o.id.0 r ≡ true
    → all_fit plan (start_deeds plan S cpu c o r) S ≡ true
start_fits plan m S cpu c o r h =
    fit_behind plan (start_effect plan S cpu c o.id.0 r) (PushFrame (cpu_of cpu) (frame_id (next_number S)) (new_frame plan S c o r) (irql_of (callback_irql plan c o.id.0)) ∷ take_if_any (next_number S) (lock_of_callback plan c o.id.0 (declared_in plan S o.id.0))) S
    (start_effect_fits plan m S cpu c o.id.0 r (both_right (declares_in plan S c o.id.0 && life_fits S c o.id.0 && level_fits S cpu (callback_irql plan c o.id.0) && is_free_if_any S.locks (lock_of_callback plan c o.id.0 (declared_in plan S o.id.0))) (is_ready_for plan m S cpu c o.id.0 r) h))
    (taking_fits plan S (do_deed plan (PushFrame (cpu_of cpu) (frame_id (next_number S)) (new_frame plan S c o r) (irql_of (callback_irql plan c o.id.0))) (do_deeds plan (start_effect plan S cpu c o.id.0 r) S)) (next_number S) (lock_of_callback plan c o.id.0 (declared_in plan S o.id.0))
    (start_effect_locks plan S cpu c o.id.0 r)
    (both_right (declares_in plan S c o.id.0 && life_fits S c o.id.0 && level_fits S cpu (callback_irql plan c o.id.0)) (is_free_if_any S.locks (lock_of_callback plan c o.id.0 (declared_in plan S o.id.0)))
    (both_left (declares_in plan S c o.id.0 && life_fits S c o.id.0 && level_fits S cpu (callback_irql plan c o.id.0) && is_free_if_any S.locks (lock_of_callback plan c o.id.0 (declared_in plan S o.id.0))) (is_ready_for plan m S cpu c o.id.0 r) h)))

-- ---- calls

second_fits : {A : Type 0} (plan : Plan) (T : State A) (f : ℕ) (k : CallKind) (n : ℕ) (a b x : Arg) → is_met T (record { kind = k; count = n; a = a; b = b; c = x }) ≡ true
    → all_fit plan (second_deeds f (record { kind = k; count = n; a = a; b = b; c = x })) T ≡ true
second_fits plan T f call.WdfSpinLockAcquire n a b x h = alone _ h
second_fits plan T f call.WdfWaitLockAcquire n a b x h = alone _ h
second_fits plan T f call.WdfInterruptAcquireLock n a b x h = alone _ h
second_fits plan T f _ n a b x h = refl

-- the first part of an acquire leaves the lock alone
second_fits_then : {A : Type 0} (plan : Plan) (S : State A) (cpu f : ℕ) (k : CallKind) (n : ℕ) (a b x : Arg) → is_met_then plan S (record { kind = k; count = n; a = a; b = b; c = x }) ≡ true
    → all_fit plan (second_deeds f (record { kind = k; count = n; a = a; b = b; c = x })) (do_deeds plan (outcome plan S cpu f (record { kind = k; count = n; a = a; b = b; c = x })).deeds S) ≡ true
second_fits_then plan S cpu f call.WdfSpinLockAcquire n a b x h = alone _ h
second_fits_then plan S cpu f call.WdfWaitLockAcquire n a b x h = alone _ h
second_fits_then plan S cpu f call.WdfInterruptAcquireLock n a b x h = alone _ h
second_fits_then plan S cpu f _ n a b x h = refl

by_there : {A : Type 0} (S : State A) (f : ℕ) (ds : ℕ → Frame → List Deed) (there : Option ℕ) → there ≡ Some f
    → (elim there as (λ _. List Deed) [ None ↦ [] | Some g ↦ ds g (frame_of S.cpus g) ]) ≡ ds f (frame_of S.cpus f)
by_there S f ds None h = absurd (let z : ⊥ = cc in z)
by_there S f ds (Some g) h = let same : g ≡ f = cc in rw same refl

-- the deeds of a frame on top
pub by_its_top : {A : Type 0} (S : State A) (cpu f : ℕ) (ds : ℕ → Frame → List Deed) → top S.cpus cpu ≡ Some f → by_top S cpu ds ≡ ds f (frame_of S.cpus f)
by_its_top S cpu f ds h = by_there S f ds (top S.cpus cpu) h

top_fits : {A : Type 0} (plan : Plan) (S : State A) (cpu f : ℕ) (ds : ℕ → Frame → List Deed) → top S.cpus cpu ≡ Some f → all_fit plan (ds f (frame_of S.cpus f)) S ≡ true
    → all_fit plan (by_top S cpu ds) S ≡ true
top_fits plan S cpu f ds t h = rw (by_its_top S cpu f ds t) h

did_fits : {A : Type 0} (plan : Plan) (m : Meaning A) (S : State A) (k : Cpu) (c : Call) (v : Value) → is_own_event plan m S k (event.Did k c v) ≡ true
    → all_fit plan (deeds plan S (event.Did k c v)) S ≡ true
did_fits plan m S k c v h =
    let d : IsDid plan S k.0 c v = did_tells plan m S k c v h in
    top_fits plan S k.0 d.frame (did_deeds plan S k.0 c v) d.about.top
    (fit_behind plan ((outcome plan S k.0 d.frame c).deeds ++ second_deeds d.frame c) (GoOn (frame_id d.frame) (answered plan (frame_of S.cpus d.frame) v) ∷ []) S
    (fit_behind plan (outcome plan S k.0 d.frame c).deeds (second_deeds d.frame c) S
    (outcome_fits plan S k.0 d.frame c.kind c.count c.a c.b c.c d.about.clean)
    (second_fits_then plan S k.0 d.frame c.kind c.count c.a c.b c.c d.met))
    refl)

waiting_fits : {A : Type 0} (plan : Plan) (m : Meaning A) (S : State A) (k : Cpu) (c : Call) → is_own_event plan m S k (event.Waiting k c) ≡ true
    → all_fit plan (deeds plan S (event.Waiting k c)) S ≡ true
waiting_fits plan m S k c h =
    let d : IsWaiting plan S k.0 c = waiting_tells plan m S k c h in
    top_fits plan S k.0 d.frame (waiting_deeds plan S k.0 c) d.about.top
    (fit_behind plan (outcome plan S k.0 d.frame c).deeds (GoOn (frame_id d.frame) (waiting (frame_of S.cpus d.frame) c (outcome plan S k.0 d.frame c).answer) ∷ []) S (outcome_fits plan S k.0 d.frame c.kind c.count c.a c.b c.c d.about.clean) refl)

woke_fits : {A : Type 0} (plan : Plan) (m : Meaning A) (S : State A) (k : Cpu) (c : Call) (v : Value) → is_own_event plan m S k (event.Woke k c v) ≡ true
    → all_fit plan (deeds plan S (event.Woke k c v)) S ≡ true
woke_fits plan m S k c v h =
    let d : IsWoke S k.0 c v = woke_tells plan m S k c v h in
    top_fits plan S k.0 d.frame (woke_deeds plan c v) d.top (fit_behind plan (second_deeds d.frame c) (GoOn (frame_id d.frame) (answered plan (frame_of S.cpus d.frame) v) ∷ []) S (second_fits plan S d.frame c.kind c.count c.a c.b c.c d.met) refl)

-- a frame goes on
moving_fits : {A : Type 0} (plan : Plan) (S : State A) (next : ℕ → Frame → Frame) (there : Option ℕ)
    → all_fit plan (elim there as (λ _. List Deed) [ None ↦ [] | Some f ↦ GoOn (frame_id f) (next f (frame_of S.cpus f)) ∷ [] ]) S ≡ true
moving_fits plan S next None = refl
moving_fits plan S next (Some f) = refl

-- ---- ends and stages

step_ends : {A : Type 0} (plan : Plan) (S T : State A) (k : Rank) (c : Callback) (o : ℕ) (v : Value) → all_fit plan (end_of_step plan S k c o v) T ≡ true
step_ends plan S T rank.Sequence c o v = refl
step_ends plan S T _ c o v = refl

releasing_fits : {A : Type 0} (plan : Plan) (S : State A) (l : Option LockRef) → all_fit plan (release_if_any l) S ≡ true
releasing_fits plan S None = refl
releasing_fits plan S (Some l) = refl

end_fits : {A : Type 0} (plan : Plan) (S : State A) (cpu : ℕ) (c : Callback) (o : ℕ) (v : Value) → all_fit plan (end_deeds plan S cpu c o v) S ≡ true
end_fits plan S cpu c o v =
    fit_behind plan (release_if_any (lock_of_callback plan c o (declared_in plan S o))) (PopFrame (cpu_of cpu) ∷ end_of_step plan S (row_of c).rank c o v) S
    (releasing_fits plan S (lock_of_callback plan c o (declared_in plan S o)))
    (step_ends plan S (do_deed plan (PopFrame (cpu_of cpu)) (do_deeds plan (release_if_any (lock_of_callback plan c o (declared_in plan S o))) S)) (row_of c).rank c o v)

stage_effect_fits : {A : Type 0} (plan : Plan) (d : ℕ) (s : Stage) (i : Option Handle) (S : State A) → all_fit plan (stage_effect plan d s i) S ≡ true
stage_effect_fits plan d stage.Hardware i S = refl
stage_effect_fits plan d stage.NoHardware i S = refl
stage_effect_fits plan d stage.Enabled i S = refl
stage_effect_fits plan d stage.Disabled i S = refl
stage_effect_fits plan d stage.QueuesUp i S = refl
stage_effect_fits plan d stage.QueuesDown i S = refl
stage_effect_fits plan d stage.Settled i S = refl
stage_effect_fits plan d stage.Quiet i S = refl
stage_effect_fits plan d stage.Closed i S = refl
stage_effect_fits plan d stage.Working i S = refl
stage_effect_fits plan d stage.Sleeping i S = refl
stage_effect_fits plan d stage.Removed i S = refl

stage_fits : {A : Type 0} (plan : Plan) (S : State A) (d : ℕ) (s : Stage) (i : Option Handle) → may_pass plan S d s i ≡ true → all_fit plan (stage_deeds plan d s i) S ≡ true
stage_fits plan S d s i h =
    both (is_some (next_step S.pnp d) && not (is_running_step S.pnp d)) _
    (step_fits S d (step.Pass s i) (both_left (step_ready S d (step.Pass s i)) (stage_ready plan S d s i) h))
    (stage_effect_fits plan d s i _)

-- ---- completions

closes : (p : Place) (s : Status) → is_closing_with p s ≡ true → is_closing p ≡ true
closes (place.Closing t) s h = refl
closes _ s h = h

-- ---- posts

if_arrives : (b : Bool) (p q : Place) → is_arrival_place p ≡ true → is_arrival_place q ≡ true → is_arrival_place (if b then p else q) ≡ true
if_arrives true p q h k = h
if_arrives false p q h k = k

arrives_in_queue : {A : Type 0} (plan : Plan) (S : State A) (f : RequestForm) (length q : ℕ) → is_arrival_place (place_in_queue plan S f length q) ≡ true
arrives_in_queue plan S f length q =
    if_arrives (not (accepts S.control q)) (place.Closing status.InvalidDeviceState) _ refl
    (if_arrives (is_data f && length == 0 && not (takes_empty (queue_of plan q))) (place.Closing status.Success) _ refl
    (if_arrives (not (is_manual_queue plan q || has_handler plan q f)) (place.Closing status.InvalidDeviceRequest) (place.Queued (record { 0 = q })) refl refl))

arrives_if_any : {A : Type 0} (plan : Plan) (S : State A) (f : RequestForm) (length : ℕ) (q : Option ℕ) → is_arrival_place (place_if_any plan S f length q) ≡ true
arrives_if_any plan S f length None = refl
arrives_if_any plan S f length (Some q) = arrives_in_queue plan S f length q

pub arrival_if_live : {A : Type 0} (plan : Plan) (S : State A) (agent : ℕ) (f : RequestForm) (length code device : ℕ) (b : Bool) → is_live (life_of S.tree device) ≡ b
    → all_fit plan (CountArrival agent ∷ (if b then Arrive (object_id device) (arrival_info S agent f length code device) (arrival_place plan S f length device) ∷ [] else [])) S ≡ true
arrival_if_live plan S agent f length code device false e = refl
arrival_if_live plan S agent f length code device true e =
    alone _ (both (is_live (life_of S.tree device) && nat_lt 0 (arrival_info S agent f length code device).arrival) (is_arrival_place (arrival_place plan S f length device))
    (both (is_live (life_of S.tree device)) (nat_lt 0 (arrival_info S agent f length code device).arrival) e (grind (arith, nat_tests)))
    (arrives_if_any plan S f length (queue_for plan device f)))

arrival_fits : {A : Type 0} (plan : Plan) (S : State A) (agent : ℕ) (f : RequestForm) (length code device : ℕ) → all_fit plan (arrival_deeds plan S agent f length code device) S ≡ true
arrival_fits plan S agent f length code device = arrival_if_live plan S agent f length code device (is_live (life_of S.tree device)) refl

cancel_place_fits : {A : Type 0} (plan : Plan) (S : State A) (r : ℕ) (p : Place) → place_of S.requests r ≡ p → is_done p ≡ false → is_closing p ≡ false → all_fit plan (cancel_at p r) S ≡ true
cancel_place_fits plan S r (place.Queued q) e d c = rw e (alone (q.0 == q.0) (itself q.0))
cancel_place_fits plan S r (place.Returning q) e d c = rw e refl
cancel_place_fits plan S r (place.Closing s) e d c = absurd (let z : ⊥ = cc in z)
cancel_place_fits plan S r place.Owned e d c = rw e refl
cancel_place_fits plan S r (place.Sent t) e d c = rw e refl
cancel_place_fits plan S r place.Done e d c = absurd (let z : ⊥ = cc in z)

cancel_in_reach : {A : Type 0} (plan : Plan) (S : State A) (r : ℕ) (b : Bool) → (is_done (place_of S.requests r) || is_closing (place_of S.requests r)) ≡ b
    → all_fit plan (cancel_deeds S (if b then None else Some r)) S ≡ true
cancel_in_reach plan S r true e = refl
cancel_in_reach plan S r false e =
    let parts = either_false (is_done (place_of S.requests r)) (is_closing (place_of S.requests r)) e in
    cancel_place_fits plan S r (place_of S.requests r) refl parts.0 parts.1

cancel_of : {A : Type 0} (plan : Plan) (S : State A) (found : Option ℕ) → all_fit plan (cancel_deeds S (option_and_then (in_reach S) found)) S ≡ true
cancel_of plan S None = refl
cancel_of plan S (Some r) = cancel_in_reach plan S r (is_done (place_of S.requests r) || is_closing (place_of S.requests r)) refl

finish_fits : {A : Type 0} (plan : Plan) (S : State A) (t : Option ℕ) (r : Handle) (s : Status) → may_finish plan S t r ≡ true → all_fit plan (post_deeds plan S 0 (post.Done r s)) S ≡ true
finish_fits plan S None r s h = absurd (let z : ⊥ = cc in z)
finish_fits plan S (Some t) r s h =
    alone _ (both (is_sent (place_of S.requests r.id.0)) _ (sent_somewhere t (place_of S.requests r.id.0) (search (both_left, both_right))) (search (both_left, both_right)))

post_deeds_fit : {A : Type 0} (plan : Plan) (S : State A) (agent : ℕ) (p : Post) → post_fits plan S agent p ≡ true → all_fit plan (post_deeds plan S agent p) S ≡ true
post_deeds_fit plan S agent (post.Read device length) h = arrival_fits plan S agent form.Read length 0 device.id.0
post_deeds_fit plan S agent (post.Write device length) h = arrival_fits plan S agent form.Write length 0 device.id.0
post_deeds_fit plan S agent (post.Control device code length) h = arrival_fits plan S agent form.Control length code device.id.0
post_deeds_fit plan S agent (post.Cancel k) h = cancel_of plan S (arrival_of S.requests agent k)
post_deeds_fit plan S agent (post.Ask a device) h = alone _ (search (both_left, both_right))
post_deeds_fit plan S agent (post.Act action) h = refl
post_deeds_fit plan S agent (post.Done r s) h = finish_fits plan S (target_of_agent plan agent) r s h

-- ---- all events

pub event_fits : {A : Type 0} (plan : Plan) (m : Meaning A) (S : State A) (e : Event) → may plan m S e ≡ true → all_fit plan (deeds plan S e) S ≡ true
event_fits plan m S (event.Start k c o r) h =
    start_fits plan m S k.0 c o r (both_right (is_cpu plan k && is_proper plan S o && is_proper_if_any plan S r) (may_start plan m S k.0 c o.id.0 r) h)
event_fits plan m S (event.Local k line) h = moving_fits plan S (λ f frame. stepped frame (intent_of plan frame)) (top S.cpus k.0)
event_fits plan m S (event.Log k v) h = moving_fits plan S (λ f frame. goes_on plan frame) (top S.cpus k.0)
event_fits plan m S (event.Spend k n) h = moving_fits plan S (λ f frame. spending plan S frame n) (top S.cpus k.0)
event_fits plan m S (event.Register k a r v) h = moving_fits plan S (λ f frame. answered plan frame (Num v)) (top S.cpus k.0)
event_fits plan m S (event.Did k c v) h = did_fits plan m S k c v h
event_fits plan m S (event.Waiting k c) h = waiting_fits plan m S k c h
event_fits plan m S (event.Woke k c v) h = woke_fits plan m S k c v h
event_fits plan m S (event.Park k f) h = refl
event_fits plan m S (event.Unpark k f) h = refl
event_fits plan m S (event.End k c o v) h = end_fits plan S k.0 c o.id.0 v
event_fits plan m S (event.Fault k x line) h = refl
event_fits plan m S (event.Stage d s i) h = stage_fits plan S d.id.0 s i (both_right (is_proper plan S d) (may_pass plan S d.id.0 s i) h)
event_fits plan m S (event.Complete r s) h =
    alone _ (first (is_closing (place_of S.requests r.id.0)) _ (closes (place_of S.requests r.id.0) s (both_right (is_proper plan S r) (is_closing_with (place_of S.requests r.id.0) s) h)))
event_fits plan m S (event.Cleanup o) h = alone (clean_ready S o.id.0) (both_right (is_proper plan S o) (clean_ready S o.id.0) (both_left (is_proper plan S o && clean_ready S o.id.0) (callback_over plan S callback.EvtCleanupCallback o.id.0) h))
event_fits plan m S (event.Destroy o) h = alone (destroy_ready S o.id.0) (both_right (is_proper plan S o) (destroy_ready S o.id.0) (both_left (is_proper plan S o && destroy_ready S o.id.0) (callback_over plan S callback.EvtDestroyCallback o.id.0) h))
event_fits plan m S (event.Posted agent p answer) h =
    post_deeds_fit plan S agent p (both_right (same_option same_post (due_of m S agent) (Some p)) (post_fits plan S agent p)
    (both_left (same_option same_post (due_of m S agent) (Some p) && post_fits plan S agent p) (same_option same_handle (post_answer plan S agent p) answer) h))
event_fits plan m S (event.Tick time) h = refl
