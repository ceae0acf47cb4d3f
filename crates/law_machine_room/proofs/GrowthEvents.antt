-- Of each that a deed may add to, the deeds of one event add one at most: a line for each kind of event.
use Rattle.std.proofs.Common.{if◌then◌else◌, ◌≡◌, ℕ, Bool, true, false, List, [], ◌∷◌, ◌++◌, Option, Some, None, refl}
use Rattle.wdf_base.specs.declared.plan.Plan.{Plan}
use Rattle.wdf_base.specs.declared.ids.Handle.{Handle}
use Rattle.wdf_base.specs.declared.value.Value.{Value}
use Rattle.wdf_base.specs.declared.value.Value.TheVariants.{Num}
use Rattle.wdf_base.specs.declared.object.LockRef.{LockRef}
use Rattle.wdf_base.specs.declared.object.Place.{Place}
use Rattle.wdf_base.specs.declared.object.Place.TheVariants as place
use Rattle.wdf_base.specs.declared.object.RequestForm.{RequestForm}
use Rattle.wdf_base.specs.declared.object.RequestForm.TheVariants as form
use Rattle.wdf_base.specs.declared.call.Callback.{Callback}
use Rattle.wdf_base.specs.Callbacks.{row_of}
use Rattle.wdf_base.specs.declared.rank.Rank.{Rank}
use Rattle.wdf_base.specs.declared.rank.Rank.TheVariants as rank
use Rattle.wdf_base.specs.declared.event.Event.{Event}
use Rattle.wdf_base.specs.declared.event.Event.TheVariants as event
use Rattle.wdf_base.specs.declared.event.Post.{Post}
use Rattle.wdf_base.specs.declared.event.Post.TheVariants as post
use Rattle.wdf_base.specs.declared.event.Stage.{Stage}
use Rattle.wdf_base.specs.declared.event.Stage.TheVariants as stage
use Rattle.wdf_base.specs.declared.frame.Frame.{Frame}
use Rattle.wdf_base.specs.Lives.{is_live}
use Rattle.wdf_model.specs.parts.Cpus.{frame_of, top}
use Rattle.wdf_model.specs.parts.Locks.{lock_of_callback}
use Rattle.wdf_model.specs.parts.Requests.{place_of}
use Rattle.wdf_model.specs.parts.Tree.{life_of}
use Rattle.wdf_model.specs.State.{State, declared_in}
use Rattle.wdf_model.specs.Ids.{cpu_of, frame_id, irql_of, object_id}
use Rattle.wdf_model.specs.rules.Calls.{outcome, second_deeds}
use Rattle.wdf_model.specs.declared.deed.Deed.{Deed}
use Rattle.wdf_model.specs.declared.deed.Deed.TheVariants.{Arrive, CountArrival, GoOn, PopFrame, PushFrame}
use Rattle.wdf_model.specs.rules.Posts.{arrival_info, arrival_place, cancel_at, cancel_deeds, cancel_reaches, post_deeds}
use Rattle.wdf_model.specs.rules.Script.{intent_of}
use Rattle.wdf_model.specs.rules.Starts.{effect, effect_for, end_of_step, release_if_any, stage_deeds, start_effect, take_if_any}
use Rattle.wdf_model.specs.rules.Steps.{answered, deeds, did_deeds, goes_on, spending, stepped, waiting, waiting_deeds, woke_deeds}
use Rattle.law_machine_room.proofs.GrowthFew.{Few, are_idle, few_apart, few_both, few_first, few_idle, few_second, few_then, then_few}

-- ---- starts and ends

-- a frame and its lock
abbrev framed : ℕ → ℕ → Frame → ℕ → Option LockRef → List Deed
framed cpu f frame level lock = PushFrame (cpu_of cpu) (frame_id f) frame (irql_of level) ∷ take_if_any f lock

few_framed : (cpu f : ℕ) (frame : Frame) (level : ℕ) (lock : Option LockRef) → Few (framed cpu f frame level lock)
few_framed cpu f frame level None = few_apart _ refl
few_framed cpu f frame level (Some l) = few_apart _ refl

few_for : (k : Rank) (o r cpu f : ℕ) (frame : Frame) (level : ℕ) (lock : Option LockRef) → Few (effect_for k o r ++ framed cpu f frame level lock)
few_for rank.CanceledOnQueue o r cpu f frame level None = few_apart _ refl
few_for rank.CanceledOnQueue o r cpu f frame level (Some l) = few_apart _ refl
few_for rank.Handler o r cpu f frame level None = few_apart _ refl
few_for rank.Handler o r cpu f frame level (Some l) = few_apart _ refl
few_for k o r cpu f frame level lock = then_few (effect_for k o r) (framed cpu f frame level lock) refl (few_framed cpu f frame level lock)

idle_effect : {A : Type 0} (plan : Plan) (S : State A) (k : Rank) (cpu : ℕ) (c : Callback) (o : ℕ) → are_idle (effect plan S k cpu c o) ≡ true
idle_effect plan S rank.Deferred cpu c o = refl
idle_effect plan S rank.Timed cpu c o = refl
idle_effect plan S rank.QueueState cpu c o = refl
idle_effect plan S rank.Sequence cpu c o = refl
idle_effect plan S rank.Work cpu c o = refl
idle_effect plan S rank.Cleanup cpu c o = refl
idle_effect plan S rank.Destroy cpu c o = refl
idle_effect plan S k cpu c o = refl

few_started : {A : Type 0} (plan : Plan) (S : State A) (cpu : ℕ) (c : Callback) (o : ℕ) (r : Option Handle) (f : ℕ) (frame : Frame) (level : ℕ) (lock : Option LockRef)
    → Few (start_effect plan S cpu c o r ++ framed cpu f frame level lock)
few_started plan S cpu c o None f frame level lock =
    then_few (effect plan S (row_of c).rank cpu c o) (framed cpu f frame level lock) (idle_effect plan S (row_of c).rank cpu c o) (few_framed cpu f frame level lock)
few_started plan S cpu c o (Some r) f frame level lock = few_for (row_of c).rank o r.id.0 cpu f frame level lock

few_step_ends : {A : Type 0} (plan : Plan) (S : State A) (k : Rank) (c : Callback) (o cpu : ℕ) (v : Value) → are_idle (PopFrame (cpu_of cpu) ∷ end_of_step plan S k c o v) ≡ true
few_step_ends plan S rank.Sequence c o cpu v = refl
few_step_ends plan S k c o cpu v = refl

few_ended : {A : Type 0} (plan : Plan) (S : State A) (cpu : ℕ) (c : Callback) (o : ℕ) (v : Value) (lock : Option LockRef)
    → Few (release_if_any lock ++ PopFrame (cpu_of cpu) ∷ end_of_step plan S (row_of c).rank c o v)
few_ended plan S cpu c o v None = few_idle _ (few_step_ends plan S (row_of c).rank c o cpu v)
few_ended plan S cpu c o v (Some l) = few_idle _ (few_step_ends plan S (row_of c).rank c o cpu v)

few_staged : (plan : Plan) (d : ℕ) (s : Stage) (i : Option Handle) → Few (stage_deeds plan d s i)
few_staged plan d stage.Enabled i = few_apart _ refl
few_staged plan d stage.Disabled i = few_apart _ refl
few_staged plan d stage.QueuesDown i = few_apart _ refl
few_staged plan d stage.Closed i = few_apart _ refl
few_staged plan d stage.Removed i = few_apart _ refl
few_staged plan d s i = few_apart (stage_deeds plan d s i) refl

-- ---- posts

few_arrive : (agent : ℕ) (d : Deed) (b : Bool) → Few (CountArrival agent ∷ d ∷ []) → Few (CountArrival agent ∷ (if b then d ∷ [] else []))
few_arrive agent d true h = h
few_arrive agent d false h = few_apart _ refl

few_arrivals : {A : Type 0} (plan : Plan) (S : State A) (agent : ℕ) (f : RequestForm) (length code device : ℕ)
    → Few (CountArrival agent ∷ (if is_live (life_of S.tree device) then Arrive (object_id device) (arrival_info S agent f length code device) (arrival_place plan S f length device) ∷ [] else []))
few_arrivals plan S agent f length code device = few_arrive agent _ (is_live (life_of S.tree device)) (few_apart _ refl)

few_cancel : (p : Place) (r : ℕ) → Few (cancel_at p r)
few_cancel (place.Queued q) r = few_apart _ refl
few_cancel p r = few_apart (cancel_at p r) refl

few_cancelled : {A : Type 0} (S : State A) (r : Option ℕ) → Few (cancel_deeds S r)
few_cancelled S None = few_apart _ refl
few_cancelled S (Some r) = few_cancel (place_of S.requests r) r

few_posted : {A : Type 0} (plan : Plan) (S : State A) (agent : ℕ) (p : Post) → Few (post_deeds plan S agent p)
few_posted plan S agent (post.Read device length) = few_arrivals plan S agent form.Read length 0 device.id.0
few_posted plan S agent (post.Write device length) = few_arrivals plan S agent form.Write length 0 device.id.0
few_posted plan S agent (post.Control device code length) = few_arrivals plan S agent form.Control length code device.id.0
few_posted plan S agent (post.Cancel k) = few_cancelled S (cancel_reaches S agent k)
few_posted plan S agent (post.Ask a device) = few_apart _ refl
few_posted plan S agent (post.Act action) = few_apart _ refl
few_posted plan S agent (post.Done request s) = few_apart _ refl

-- ---- events

-- what the top frame of a processor does
few_by_top : {A : Type 0} (S : State A) (what : ℕ → Frame → List Deed) (there : Option ℕ) → ((f : ℕ) (frame : Frame) → Few (what f frame))
    → Few (elim there as (λ _. List Deed) [ None ↦ [] | Some f ↦ what f (frame_of S.cpus f) ])
few_by_top S what None h = few_apart _ refl
few_by_top S what (Some f) h = h f (frame_of S.cpus f)

pub few_of_event : {A : Type 0} (plan : Plan) (S : State A) (e : Event) → Few (deeds plan S e)
few_of_event plan S (event.Start k c o r) = few_started plan S k.0 c o.id.0 r _ _ _ (lock_of_callback plan c o.id.0 (declared_in plan S o.id.0))
few_of_event plan S (event.Local k line) = few_by_top S (λ f frame. GoOn (frame_id f) (stepped frame (intent_of plan frame)) ∷ []) (top S.cpus k.0) (λ f frame. few_apart _ refl)
few_of_event plan S (event.Log k v) = few_by_top S (λ f frame. GoOn (frame_id f) (goes_on plan frame) ∷ []) (top S.cpus k.0) (λ f frame. few_apart _ refl)
few_of_event plan S (event.Spend k n) = few_by_top S (λ f frame. GoOn (frame_id f) (spending plan S frame n) ∷ []) (top S.cpus k.0) (λ f frame. few_apart _ refl)
few_of_event plan S (event.Register k a r v) = few_by_top S (λ f frame. GoOn (frame_id f) (answered plan frame (Num v)) ∷ []) (top S.cpus k.0) (λ f frame. few_apart _ refl)
few_of_event plan S (event.Did k c v) =
    few_by_top S (did_deeds plan S k.0 c v) (top S.cpus k.0)
    (λ f frame. few_then ((outcome plan S k.0 f c).deeds ++ second_deeds f c) (GoOn (frame_id f) (answered plan frame v) ∷ []) (few_both plan S k.0 f c.kind c.count c.a c.b c.c) refl)
few_of_event plan S (event.Waiting k c) =
    few_by_top S (waiting_deeds plan S k.0 c) (top S.cpus k.0)
    (λ f frame. few_then (outcome plan S k.0 f c).deeds (GoOn (frame_id f) (waiting frame c (outcome plan S k.0 f c).answer) ∷ []) (few_first plan S k.0 f c.kind c.count c.a c.b c.c) refl)
few_of_event plan S (event.Woke k c v) =
    few_by_top S (woke_deeds plan c v) (top S.cpus k.0) (λ f frame. few_then (second_deeds f c) (GoOn (frame_id f) (answered plan frame v) ∷ []) (few_second f c.kind c.count c.a c.b c.c) refl)
few_of_event plan S (event.End k c o v) = few_ended plan S k.0 c o.id.0 v (lock_of_callback plan c o.id.0 (declared_in plan S o.id.0))
few_of_event plan S (event.Stage d s i) = few_staged plan d.id.0 s i
few_of_event plan S (event.Posted agent p answer) = few_posted plan S agent p
few_of_event plan S e = few_apart (deeds plan S e) refl
