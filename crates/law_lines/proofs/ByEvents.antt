-- What the deeds of an event give is of the plan, where the event is.
use Rattle.std.proofs.Common.{if◌then◌else◌, ℕ, ◌+◌, ◌<◌, ◌^◌, Bool, true, false, List, [], ◌∷◌, ◌++◌, Option, Some, None, option_and_then, arith}
use Rattle.wdf_base.specs.Callbacks.{row_of}
use Rattle.wdf_base.specs.Meaning.{Meaning}
use Rattle.wdf_base.specs.declared.plan.Plan.{Plan}
use Rattle.wdf_base.specs.declared.ids.Handle.{Handle}
use Rattle.wdf_base.specs.declared.call.Callback.{Callback}
use Rattle.wdf_base.specs.declared.call.Call.{Call}
use Rattle.wdf_base.specs.declared.event.Event.{Event}
use Rattle.wdf_base.specs.declared.event.Event.TheVariants as event
use Rattle.wdf_base.specs.declared.event.Post.{Post}
use Rattle.wdf_base.specs.declared.event.Post.TheVariants as post
use Rattle.wdf_base.specs.declared.event.Stage.{Stage}
use Rattle.wdf_base.specs.declared.event.Stage.TheVariants as stage
use Rattle.wdf_base.specs.declared.frame.Change.TheVariants as change
use Rattle.wdf_base.specs.declared.frame.Frame.{Frame}
use Rattle.wdf_base.specs.declared.frame.Intent.{Intent}
use Rattle.wdf_base.specs.declared.frame.Intent.TheVariants as intent
use Rattle.wdf_base.specs.declared.object.LockRef.{LockRef}
use Rattle.wdf_base.specs.declared.object.Place.{Place}
use Rattle.wdf_base.specs.declared.object.Place.TheVariants as place
use Rattle.wdf_base.specs.declared.object.RequestForm.{RequestForm}
use Rattle.wdf_base.specs.declared.object.RequestForm.TheVariants as form
use Rattle.wdf_base.specs.declared.rank.Rank.{Rank}
use Rattle.wdf_base.specs.declared.rank.Rank.TheVariants as rank
use Rattle.wdf_base.specs.declared.script.Statement.{Statement}
use Rattle.wdf_base.specs.declared.value.Value.{Value}
use Rattle.wdf_base.specs.declared.value.Value.TheVariants.{Num}
use Rattle.wdf_base.specs.Lives.{is_live}
use Rattle.wdf_model.specs.Plans.{callback_irql}
use Rattle.wdf_model.specs.parts.Tree.{life_of, nearest_device}
use Rattle.wdf_model.specs.parts.Cpus.{frame_of, top}
use Rattle.wdf_model.specs.parts.Locks.{lock_of_callback}
use Rattle.wdf_model.specs.parts.Requests.{arrival_of, place_of}
use Rattle.wdf_model.specs.State.{State, declared_in}
use Rattle.wdf_model.specs.Ids.{frame_id, irql_of, object_id}
use Rattle.wdf_model.specs.declared.deed.Deed.{Deed}
use Rattle.wdf_model.specs.declared.deed.Deed.TheVariants.{Arrive, CountArrival, GoOn, PopFrame, PushFrame}
use Rattle.wdf_model.specs.rules.Script.{intent_of, statement_at}
use Rattle.wdf_model.specs.rules.Calls.{outcome, second_deeds}
use Rattle.wdf_model.specs.rules.Starts.{effect, effect_for, end_of_step, handle_id, new_frame, next_number, release_if_any, stage_effect, start_effect, take_if_any}
use Rattle.wdf_model.specs.rules.Posts.{arrival_info, arrival_place, cancel_at, cancel_deeds, in_reach, post_deeds}
use Rattle.wdf_model.specs.rules.Steps.{answered, at_next, deeds, did_deeds, goes_on, result_of, spending, stepped, waiting, waiting_deeds, with_answer, woke_deeds}
use Rattle.law_machine_lives.proofs.Lists.{each_behind}
use Rattle.wdf_model.specs.rules.Room.{AreDoable}
use Rattle.wdf_trace.specs.Events.{IsCallOf, IsEventOf, IsHandleOf, IsOptionalOf, IsPostOf, IsValueOf}
use Rattle.law_lines.proofs.ProperNames.{handle_name}
use Rattle.law_lines.proofs.OfPlan.{Bounded, few_declared}
use Rattle.law_lines.specs.Fitting.{HasFittingNumbers}
use Rattle.law_lines.specs.Values.{HasFrameValues, HasPlanValues}
use Rattle.law_lines.proofs.Intents.{IsIntentOf, intent_is_of}
use Rattle.law_lines.proofs.ByDeeds.{AllTellOf, TellsOf, value_set, zeros}
use Rattle.law_lines.proofs.Outcomes.{outcome_of, second_tells}
use Rattle.law_lines.proofs.FrameEvents.{doable_front}
use Rattle.law_machine_counts.proofs.Nearest.{nearest_below}

-- ---- the nearest device of an object is below each bound that is above all ids

-- ---- frames that go on

at_next_of : (plan : Plan) (frame : Frame) (o : Option Statement) → HasFrameValues plan frame → HasFrameValues plan (at_next frame o)
at_next_of plan frame None k = k
at_next_of plan frame (Some s) k = record { own = k.own; nearest = k.nearest; carried = k.carried; size = k.size; control = k.control; variable = k.variable; waits = k.waits }

goes_on_of : (plan : Plan) (frame : Frame) → HasFrameValues plan frame → HasFrameValues plan (goes_on plan frame)
goes_on_of plan frame k = at_next_of plan frame (statement_at plan frame) k

spending_of : {A : Type 0} (plan : Plan) (S : State A) (frame : Frame) (n : ℕ) → HasFrameValues plan frame → HasFrameValues plan (spending plan S frame n)
spending_of plan S frame n k =
    let g = goes_on_of plan frame k in
    record { own = g.own; nearest = g.nearest; carried = g.carried; size = g.size; control = g.control; variable = g.variable; waits = g.waits }

with_answer_of : (plan : Plan) (frame : Frame) (o : Option ℕ) (v : Value) → IsValueOf plan v → HasFrameValues plan frame → HasFrameValues plan (with_answer frame o v)
with_answer_of plan frame None v h k = k
with_answer_of plan frame (Some variable) v h k = record {
  own = k.own;
  nearest = k.nearest;
  carried = k.carried;
  size = k.size;
  control = k.control;
  variable = value_set plan frame.variables variable v h k.variable;
  waits = k.waits;
}

answered_of : (plan : Plan) (frame : Frame) (v : Value) → IsValueOf plan v → HasFrameValues plan frame → HasFrameValues plan (answered plan frame v)
answered_of plan frame v h k =
    let g = with_answer_of plan (goes_on plan frame) (result_of (statement_at plan frame)) v h (goes_on_of plan frame k) in
    record { own = g.own; nearest = g.nearest; carried = g.carried; size = g.size; control = g.control; variable = g.variable; waits = tt }

waiting_of : (plan : Plan) (frame : Frame) (c : Call) (v : Value) → IsCallOf plan c → IsValueOf plan v → HasFrameValues plan frame → HasFrameValues plan (waiting frame c v)
waiting_of plan frame c v is h k = record { own = k.own; nearest = k.nearest; carried = k.carried; size = k.size; control = k.control; variable = k.variable; waits = (is, h) }

stepped_of : (plan : Plan) (frame : Frame) (i : Intent) → IsIntentOf plan i → HasFrameValues plan frame → HasFrameValues plan (stepped frame i)
stepped_of plan frame (intent.Local (change.Assign v x) next) is k = record {
  own = k.own;
  nearest = k.nearest;
  carried = k.carried;
  size = k.size;
  control = k.control;
  variable = value_set plan frame.variables v x is k.variable;
  waits = k.waits;
}
stepped_of plan frame (intent.Local change.Branch next) is k = record { own = k.own; nearest = k.nearest; carried = k.carried; size = k.size; control = k.control; variable = k.variable; waits = k.waits }
stepped_of plan frame (intent.Local (change.Count depth left) next) is k = record { own = k.own; nearest = k.nearest; carried = k.carried; size = k.size; control = k.control; variable = k.variable; waits = k.waits }
stepped_of plan frame _ is k = k

-- ---- the deeds of starts, ends, stages and posts

effect_for_tells : (plan : Plan) (k : Rank) (o r : ℕ) → AllTellOf plan (effect_for k o r)
effect_for_tells plan rank.Completion o r = (tt, tt)
effect_for_tells plan rank.Cancel o r = (tt, tt)
effect_for_tells plan rank.CanceledOnQueue o r = (tt, tt)
effect_for_tells plan rank.Stop o r = (tt, tt)
effect_for_tells plan rank.Resume o r = (tt, tt)
effect_for_tells plan rank.Handler o r = (tt, tt)
effect_for_tells plan _ o r = tt

effect_tells : {A : Type 0} (plan : Plan) (S : State A) (k : Rank) (cpu : ℕ) (c : Callback) (o : ℕ) → AllTellOf plan (effect plan S k cpu c o)
effect_tells plan S rank.Deferred cpu c o = (tt, tt)
effect_tells plan S rank.Timed cpu c o = (tt, tt)
effect_tells plan S rank.QueueState cpu c o = (tt, tt)
effect_tells plan S rank.Sequence cpu c o = (tt, tt)
effect_tells plan S rank.Work cpu c o = (tt, tt)
effect_tells plan S rank.Cleanup cpu c o = (tt, tt)
effect_tells plan S rank.Destroy cpu c o = (tt, tt)
effect_tells plan S _ cpu c o = tt

start_effect_tells : {A : Type 0} (plan : Plan) (S : State A) (cpu : ℕ) (c : Callback) (o : ℕ) (r : Option Handle) → AllTellOf plan (start_effect plan S cpu c o r)
start_effect_tells plan S cpu c o None = effect_tells plan S (row_of c).rank cpu c o
start_effect_tells plan S cpu c o (Some r) = effect_for_tells plan (row_of c).rank o r.id.0

taking_tells : (plan : Plan) (f : ℕ) (l : Option LockRef) → AllTellOf plan (take_if_any f l)
taking_tells plan f None = tt
taking_tells plan f (Some l) = (tt, tt)

releasing_tells : (plan : Plan) (l : Option LockRef) → AllTellOf plan (release_if_any l)
releasing_tells plan None = tt
releasing_tells plan (Some l) = (tt, tt)

step_tells : {A : Type 0} (plan : Plan) (S : State A) (k : Rank) (c : Callback) (o : ℕ) (v : Value) → AllTellOf plan (end_of_step plan S k c o v)
step_tells plan S rank.Sequence c o v = (tt, tt)
step_tells plan S _ c o v = tt

stage_tells : (plan : Plan) (d : ℕ) (s : Stage) (i : Option Handle) → AllTellOf plan (stage_effect plan d s i)
stage_tells plan d stage.Enabled i = (tt, tt)
stage_tells plan d stage.Disabled i = (tt, tt)
stage_tells plan d stage.QueuesDown i = (tt, tt)
stage_tells plan d stage.Closed i = (tt, tt)
stage_tells plan d stage.Removed i = (tt, tt)
stage_tells plan d _ i = tt

cancel_at_tells : (plan : Plan) (p : Place) (r : ℕ) → AllTellOf plan (cancel_at p r)
cancel_at_tells plan (place.Queued q) r = (tt, tt)
cancel_at_tells plan _ r = (tt, tt)

cancel_tells : {A : Type 0} (plan : Plan) (S : State A) (r : Option ℕ) → AllTellOf plan (cancel_deeds S r)
cancel_tells plan S None = tt
cancel_tells plan S (Some r) = cancel_at_tells plan (place_of S.requests r) r

arrival_tells : {A : Type 0} (plan : Plan) (S : State A) (agent : ℕ) (f : RequestForm) (size code device : ℕ) (b : Bool) → size < 2 ^ 64 → code < 2 ^ 64
    → AllTellOf plan (CountArrival agent ∷ (if b then Arrive (object_id device) (arrival_info S agent f size code device) (arrival_place plan S f size device) ∷ [] else []))
arrival_tells plan S agent f size code device true h k = (tt, ((h, k), tt))
arrival_tells plan S agent f size code device false h k = (tt, tt)

post_tells : {A : Type 0} (plan : Plan) (S : State A) (agent : ℕ) (p : Post) (a : Option Handle) → IsPostOf plan p a → AllTellOf plan (post_deeds plan S agent p)
post_tells plan S agent (post.Read d n) a is = arrival_tells plan S agent form.Read n 0 d.id.0 (is_live (life_of S.tree d.id.0)) is.1 (omega arith)
post_tells plan S agent (post.Write d n) a is = arrival_tells plan S agent form.Write n 0 d.id.0 (is_live (life_of S.tree d.id.0)) is.1 (omega arith)
post_tells plan S agent (post.Control d c n) a is = arrival_tells plan S agent form.Control n c d.id.0 (is_live (life_of S.tree d.id.0)) is.2 is.1
post_tells plan S agent (post.Cancel k) a is = cancel_tells plan S (option_and_then (in_reach S) (arrival_of S.requests agent k))
post_tells plan S agent (post.Ask x d) a is = (tt, tt)
post_tells plan S agent (post.Act x) a is = tt
post_tells plan S agent (post.Done r s) a is = (tt, tt)

-- ---- events

module _ {A : Type 0} (plan : Plan) (m : Meaning A) (S : State A) (b : Bounded plan S) (fit : HasFittingNumbers plan) (values : HasPlanValues plan S) where
  by_top_tells : (ds : ℕ → Frame → List Deed) → ((f : ℕ) → AllTellOf plan (ds f (frame_of S.cpus f))) → (there : Option ℕ)
      → AllTellOf plan (elim there as (λ _. List Deed) [ None ↦ [] | Some f ↦ ds f (frame_of S.cpus f) ])
  by_top_tells ds h None = tt
  by_top_tells ds h (Some f) = h f

  by_top_tells_then : (ds : ℕ → Frame → List Deed) → ((f : ℕ) → AreDoable plan (ds f (frame_of S.cpus f)) S → AllTellOf plan (ds f (frame_of S.cpus f))) → (there : Option ℕ)
      → AreDoable plan (elim there as (λ _. List Deed) [ None ↦ [] | Some f ↦ ds f (frame_of S.cpus f) ]) S
      → AllTellOf plan (elim there as (λ _. List Deed) [ None ↦ [] | Some f ↦ ds f (frame_of S.cpus f) ])
  by_top_tells_then ds h None k = tt
  by_top_tells_then ds h (Some f) k = h f k

  nearest_few : (o : ℕ) → nearest_device S.tree o < 2 ^ 32
  nearest_few o =
      let there = b.room.growth.objects in
      let declared = few_declared plan b.resolved in
      let number = b.number in
      nearest_below (2 ^ 32) [] S.tree.nodes (omega (arith, there, declared, number)) (λ x. omega arith) o

  new_frame_of : (c : Callback) (o : Handle) (r : Option Handle) → IsHandleOf plan o → IsOptionalOf plan r → HasFrameValues plan (new_frame plan S c o r)
  new_frame_of c o r h k = record {
    own = h;
    nearest = (nearest_few o.id.0, handle_name plan S b.resolved (nearest_device S.tree o.id.0));
    carried = k;
    size = (values.requests (handle_id r)).0;
    control = (values.requests (handle_id r)).1;
    variable = zeros plan 16;
    waits = tt;
  }

  did_tells : (cpu f : ℕ) (c : Call) (v : Value) → IsCallOf plan c → IsValueOf plan v → AllTellOf plan (did_deeds plan S cpu c v f (frame_of S.cpus f))
  did_tells cpu f c v is h =
      each_behind (TellsOf plan) ((outcome plan S cpu f c).deeds ++ second_deeds f c) (GoOn (frame_id f) (answered plan (frame_of S.cpus f) v) ∷ [])
      (each_behind (TellsOf plan) (outcome plan S cpu f c).deeds (second_deeds f c) (outcome_of plan m S b values cpu f c is).tells (second_tells plan f c))
      (answered_of plan (frame_of S.cpus f) v h (values.frames f), tt)

  waiting_tells : (cpu f : ℕ) (c : Call) → IsCallOf plan c → AreDoable plan (waiting_deeds plan S cpu c f (frame_of S.cpus f)) S → AllTellOf plan (waiting_deeds plan S cpu c f (frame_of S.cpus f))
  waiting_tells cpu f c is k =
      let o = outcome_of plan m S b values cpu f c is in
      let answer = o.answers (doable_front plan (outcome plan S cpu f c).deeds _ S k) in
      each_behind (TellsOf plan) (outcome plan S cpu f c).deeds (GoOn (frame_id f) (waiting (frame_of S.cpus f) c (outcome plan S cpu f c).answer) ∷ []) o.tells
      (waiting_of plan (frame_of S.cpus f) c (outcome plan S cpu f c).answer is answer (values.frames f), tt)

  woke_tells : (f : ℕ) (c : Call) (v : Value) → IsValueOf plan v → AllTellOf plan (woke_deeds plan c v f (frame_of S.cpus f))
  woke_tells f c v h =
      each_behind (TellsOf plan) (second_deeds f c) (GoOn (frame_id f) (answered plan (frame_of S.cpus f) v) ∷ []) (second_tells plan f c)
      (answered_of plan (frame_of S.cpus f) v h (values.frames f), tt)

  pub event_tells : (e : Event) → IsEventOf plan e → AreDoable plan (deeds plan S e) S → AllTellOf plan (deeds plan S e)
  event_tells (event.Start k c o r) is d =
      each_behind (TellsOf plan) (start_effect plan S k.0 c o.id.0 r)
      (PushFrame k (frame_id (next_number S)) (new_frame plan S c o r) (irql_of (callback_irql plan c o.id.0)) ∷ take_if_any (next_number S) (lock_of_callback plan c o.id.0 (declared_in plan S o.id.0)))
      (start_effect_tells plan S k.0 c o.id.0 r)
      (new_frame_of c o r is.1 is.2, taking_tells plan (next_number S) (lock_of_callback plan c o.id.0 (declared_in plan S o.id.0)))
  event_tells (event.Local k line) is d =
      by_top_tells (λ f frame. GoOn (frame_id f) (stepped frame (intent_of plan frame)) ∷ [])
      (λ f. (stepped_of plan (frame_of S.cpus f) (intent_of plan (frame_of S.cpus f)) (intent_is_of plan b.resolved fit (frame_of S.cpus f) (values.frames f)) (values.frames f), tt)) (top S.cpus k.0)
  event_tells (event.Log k v) is d = by_top_tells (λ f frame. GoOn (frame_id f) (goes_on plan frame) ∷ []) (λ f. (goes_on_of plan (frame_of S.cpus f) (values.frames f), tt)) (top S.cpus k.0)
  event_tells (event.Spend k n) is d = by_top_tells (λ f frame. GoOn (frame_id f) (spending plan S frame n) ∷ []) (λ f. (spending_of plan S (frame_of S.cpus f) n (values.frames f), tt)) (top S.cpus k.0)
  event_tells (event.Register k a r v) is d =
      by_top_tells (λ f frame. GoOn (frame_id f) (answered plan frame (Num v)) ∷ []) (λ f. (answered_of plan (frame_of S.cpus f) (Num v) is.2 (values.frames f), tt)) (top S.cpus k.0)
  event_tells (event.Did k c v) is d = by_top_tells (did_deeds plan S k.0 c v) (λ f. did_tells k.0 f c v is.1 is.2) (top S.cpus k.0)
  event_tells (event.Waiting k c) is d = by_top_tells_then (waiting_deeds plan S k.0 c) (λ f x. waiting_tells k.0 f c is.1 x) (top S.cpus k.0) d
  event_tells (event.Woke k c v) is d = by_top_tells (woke_deeds plan c v) (λ f. woke_tells f c v is.2) (top S.cpus k.0)
  event_tells (event.End k c o v) is d =
      each_behind (TellsOf plan) (release_if_any (lock_of_callback plan c o.id.0 (declared_in plan S o.id.0))) (PopFrame k ∷ end_of_step plan S (row_of c).rank c o.id.0 v)
      (releasing_tells plan (lock_of_callback plan c o.id.0 (declared_in plan S o.id.0))) (tt, step_tells plan S (row_of c).rank c o.id.0 v)
  event_tells (event.Fault k x line) is d = tt
  event_tells (event.Stage x s i) is d = (tt, (tt, stage_tells plan x.id.0 s i))
  event_tells (event.Posted agent p a) is d = post_tells plan S agent p a is.1
  event_tells _ is d = (tt, tt)
