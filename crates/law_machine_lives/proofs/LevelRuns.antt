-- The levels of frames agree with the locks that they hold or wait for, at each place of every run of a resolved plan.
use Rattle.std.proofs.Common.{◌≡◌, ℕ, ◌==◌, ◌≤◌, true, ◌&&◌, List, ◌∷◌, ◌++◌, Option, Some, None, length, take, refl, sym, ap, subst, ◌∙◌, arith}
use Rattle.wdf_base.specs.Meaning.{Meaning}
use Rattle.wdf_base.specs.Resolved.{IsResolved}
use Rattle.wdf_base.specs.declared.plan.Plan.{Plan}
use Rattle.wdf_base.specs.declared.ids.Handle.{Handle}
use Rattle.wdf_base.specs.declared.value.Value.{Value}
use Rattle.wdf_base.specs.declared.value.Value.TheVariants.{Num}
use Rattle.wdf_base.specs.declared.call.Callback.{Callback}
use Rattle.wdf_base.specs.declared.event.Event.{Event}
use Rattle.wdf_base.specs.declared.event.Event.TheVariants as event
use Rattle.wdf_base.specs.declared.event.Stage.{Stage}
use Rattle.wdf_base.specs.declared.frame.Frame.{Frame}
use Rattle.wdf_base.specs.declared.object.Kind.TheVariants as kind
use Rattle.wdf_base.specs.declared.object.LockRef.{LockRef}
use Rattle.wdf_base.specs.declared.rank.Rank.{Rank}
use Rattle.wdf_base.specs.declared.rank.Rank.TheVariants as rank
use Rattle.wdf_base.specs.Callbacks.{row_of}
use Rattle.wdf_base.specs.Same.{same_kind}
use Rattle.wdf_model.specs.declared.entries.Held.{Held}
use Rattle.wdf_model.specs.Tables.{same_id}
use Rattle.wdf_model.specs.Plans.{callback_irql}
use Rattle.wdf_model.specs.parts.Cpus.{frame_of, top}
use Rattle.wdf_model.specs.parts.Cpus as cpus
use Rattle.wdf_model.specs.parts.Locks.{lock_of_callback}
use Rattle.wdf_model.specs.State.{State, declared_in, declares_in, is_proper}
use Rattle.wdf_model.specs.Ids.{cpu_of, frame_id, irql_of}
use Rattle.wdf_model.specs.declared.deed.Deed.{Deed}
use Rattle.wdf_model.specs.declared.deed.Deed.TheVariants.{PopFrame, PushFrame}
use Rattle.wdf_model.specs.rules.Deeds.{do_deeds}
use Rattle.wdf_model.specs.rules.Script.{intent_of, statement_at}
use Rattle.wdf_model.specs.rules.Starts.{end_deeds, end_of_step, may_start, new_frame, next_number, release_if_any, stage_deeds, start_deeds, start_effect, take_if_any}
use Rattle.wdf_model.specs.rules.Posts.{post_deeds}
use Rattle.wdf_model.specs.rules.Steps.{answered, by_top, deeds, did_deeds, goes_on, is_cpu, is_proper_if_any, may, spending, stepped, waiting_deeds, woke_deeds}
use Rattle.law_machine_base.specs.Fits.{all_fit}
use Rattle.wdf_model.proofs.Tests.{both_left, both_right}
use Rattle.law_machine_base.proofs.OwnEvents.{IsDid, IsEnd, IsWaiting, IsWoke, did_tells, end_tells, waiting_tells, woke_tells}
use Rattle.law_machine_base.proofs.FitsOfEvents.{by_its_top, event_fits}
use Rattle.wdf_model.proofs.FrameCounts.{on, parks, unparks}
use Rattle.law_machine_counts.proofs.NextFrames.{answered_kept, goes_on_kept, stepped_kept}
use Rattle.law_machine_counts.proofs.StepStates.{fit_before, in_turn}
use Rattle.law_machine_lives.proofs.Keeping.{Known}
use Rattle.law_machine_lives.proofs.Lists.{each_still}
use Rattle.law_machine_lives.proofs.LocksOnce.{Once}
use Rattle.law_machine_lives.proofs.Sound.{AllSound}
use Rattle.law_machine_lives.proofs.SoundEvents.{Before, start_effect_sound, top_on}
use Rattle.law_machine_lives.proofs.SoundRuns.{KnownAll, all_sound}
use Rattle.law_machine_lives.proofs.Framing.{Framing, IsHeld}
use Rattle.law_machine_lives.proofs.Leveled.{Leveled}
use Rattle.law_machine_lives.proofs.LevelSteps.{ends, rearranged, starts}
use Rattle.law_machine_lives.proofs.QuietDeeds.{all_quiet, post_none, stage_none, start_effect_none}
use Rattle.law_machine_lives.proofs.QuietMoves.{LeveledIn, Quietly, quiet_deeds}
use Rattle.law_machine_lives.proofs.LevelEvents.{at_next_waits, idle_at, moving, sound_after, sound_before, stepped_waits}
use Rattle.wdf_model.specs.State.{opening}
use Rattle.wdf_model.specs.rules.Ready.{IsRunOf, state_after}
use Rattle.law_machine_lives.proofs.Keeping.{at_the_end, each_place_by}
use Rattle.law_machine_lives.proofs.LocksOnce.{once_at_each}
use Rattle.law_machine_lives.proofs.SoundRuns.{all_known}
use Rattle.law_machine_counts.proofs.StepsOverRuns.{none_yet}
use Rattle.law_machine_lives.proofs.LevelSteps.{less_own, with_own}
use Rattle.law_machine_lives.proofs.LevelCalls.{did_call, unlike, waits_call, woke_call}
use Rattle.law_machine_lives.proofs.ReasonsOfEvents.{spending_kept}
use Rattle.law_machine_counts.proofs.StepTable.{top_is}

-- ---- a callback starts

start_levels : {A : Type 0} (plan : Plan) (m : Meaning A) (S : State A) (cpu : ℕ) (c : Callback) (o : Handle) (r : Option Handle) → IsResolved plan → may_start plan m S cpu c o.id.0 r ≡ true
    → all_fit plan (start_deeds plan S cpu c o r) S ≡ true → AllSound plan (start_deeds plan S cpu c o r) S → Framing plan S → LeveledIn plan S → LeveledIn plan (do_deeds plan (start_deeds plan S cpu c o r) S)
start_levels {A} plan m S cpu c o r resolved may_come fit sound frames k =
    let f : ℕ = next_number S in
    let frame : Frame = new_frame plan S c o r in
    let level : ℕ = callback_irql plan c o.id.0 in
    let l : Option LockRef = lock_of_callback plan c o.id.0 (declared_in plan S o.id.0) in
    let ds : List Deed = start_effect plan S cpu c o.id.0 r in
    let es : List Deed = PushFrame (cpu_of cpu) (frame_id f) frame (irql_of level) ∷ take_if_any f l in
    let U : State A = do_deeds plan ds S in
    let q : Quietly plan S U = quiet_deeds plan ds S (start_effect_none plan S cpu c o.id.0 r) (fit_before plan ds es S fit) (sound_before plan ds es S sound) frames k in
    let b : Before plan S U = (start_effect_sound plan S cpu c o.id.0 r).1 in
    let pushes : AllSound plan es U = sound_after plan ds es S sound in
    let declares : declares_in plan S c o.id.0 ≡ true = search (both_left, both_right) in
    subst (λ (V : State A). LeveledIn plan V) (sym (in_turn plan ds es S))
    (by_lock U cpu f frame level l
    (starts plan U.cpus U.locks U.tree cpu f frame level l pushes.0.1
    (each_still (IsHeld plan U) (λ (h : Held). 1 ≤ on U.cpus h.frame.0) (λ h is. is.0) U.locks.held q.frames.held) refl refl
    (λ lock. ap (λ x. same_kind x kind.SpinLock) (b.kinds o.id.0) ∙ unlike plan S c o.id.0 resolved declares lock)
    (ap (lock_of_callback plan c o.id.0) (b.declared o.id.0)) q.levels))
  where
    by_lock : {A : Type 0} {plan : Plan} (U : State A) (cpu f : ℕ) (frame : Frame) (level : ℕ) (l : Option LockRef) → Leveled plan (cpus.push U.cpus cpu f frame level) (with_own U.locks l f) U.tree → LeveledIn plan (do_deeds plan (PushFrame (cpu_of cpu) (frame_id f) frame (irql_of level) ∷ take_if_any f l) U)
    by_lock U cpu f frame level None k = k
    by_lock U cpu f frame level (Some l) k = k

-- ---- a frame ends

ends_step : {A : Type 0} (plan : Plan) (S T : State A) (k : Rank) (c : Callback) (o : ℕ) (v : Value) → LeveledIn plan T → LeveledIn plan (do_deeds plan (end_of_step plan S k c o v) T)
ends_step plan S T rank.Sequence c o v l = l
ends_step plan S T _ c o v l = l

by_own : {A : Type 0} (plan : Plan) (S : State A) (cpu : ℕ) (k : Rank) (c : Callback) (o : ℕ) (v : Value) (l : Option LockRef) → Leveled plan (cpus.pop S.cpus cpu) (less_own S.locks l) S.tree
    → LeveledIn plan (do_deeds plan (release_if_any l ++ PopFrame (cpu_of cpu) ∷ end_of_step plan S k c o v) S)
by_own plan S cpu k c o v None l = ends_step plan S _ k c o v l
by_own plan S cpu k c o v (Some x) l = ends_step plan S _ k c o v l

end_levels : {A : Type 0} (plan : Plan) (S : State A) (cpu : ℕ) (c : Callback) (o : Handle) (v : Value) → Known plan S → Once S.locks → IsEnd plan S cpu c o v → LeveledIn plan S → LeveledIn plan (do_deeds plan (end_deeds plan S cpu c o.id.0 v) S)
end_levels plan S cpu c o v known once d k =
    let l : Option LockRef = lock_of_callback plan c o.id.0 (declared_in plan S o.id.0) in
    let own : lock_of_callback plan (frame_of S.cpus d.frame).callback (frame_of S.cpus d.frame).object.id.0 (declared_in plan S (frame_of S.cpus d.frame).object.id.0) ≡ l =
    sym (ap (λ x. lock_of_callback plan x o.id.0 (declared_in plan S o.id.0)) d.callback ∙ ap (λ (h : Handle). lock_of_callback plan (frame_of S.cpus d.frame).callback h.id.0 (declared_in plan S h.id.0)) d.object) in
    by_own plan S cpu (row_of c).rank c o.id.0 v l
    (ends plan S.cpus S.locks S.tree cpu d.frame l d.about.top (known.frames.once d.frame) (top_on S.cpus cpu d.frame d.about.top) once own k)

-- ---- each event

quiet_event : {A : Type 0} (plan : Plan) (ds : List Deed) (S : State A) → all_quiet ds ≡ true → all_fit plan ds S ≡ true → AllSound plan ds S → Framing plan S → LeveledIn plan S → LeveledIn plan (do_deeds plan ds S)
quiet_event plan ds S quiet fit sound frames k = let q = quiet_deeds plan ds S quiet fit sound frames k in q.levels

at_its_top : {A : Type 0} (plan : Plan) (S : State A) (cpu f : ℕ) (what : ℕ → Frame → List Deed) → top S.cpus cpu ≡ Some f → all_fit plan (by_top S cpu what) S ≡ true → AllSound plan (by_top S cpu what) S
    → (all_fit plan (what f (frame_of S.cpus f)) S ≡ true → AllSound plan (what f (frame_of S.cpus f)) S → LeveledIn plan (do_deeds plan (what f (frame_of S.cpus f)) S)) → LeveledIn plan (do_deeds plan (by_top S cpu what) S)
at_its_top plan S cpu f what t fit sound k =
    let e = by_its_top S cpu f what t in
    subst (λ ds. LeveledIn plan (do_deeds plan ds S)) (sym e) (k (subst (λ ds. all_fit plan ds S ≡ true) e fit) (subst (λ ds. AllSound plan ds S) e sound))

stage_quiet : (plan : Plan) (d : ℕ) (s : Stage) (i : Option Handle) → all_quiet (stage_deeds plan d s i) ≡ true
stage_quiet plan d s i = stage_none plan d s i

event_by : {A : Type 0} (plan : Plan) (m : Meaning A) (S : State A) (e : Event) → IsResolved plan → KnownAll plan S → Once S.locks → may plan m S e ≡ true → all_fit plan (deeds plan S e) S ≡ true → AllSound plan (deeds plan S e) S
    → LeveledIn plan S → LeveledIn plan (do_deeds plan (deeds plan S e) S)
event_by plan m S (event.Start c k o r) resolved known once h fit sound l =
    start_levels plan m S c.0 k o r resolved (both_right (is_cpu plan c && is_proper plan S o && is_proper_if_any plan S r) (may_start plan m S c.0 k o.id.0 r) h) fit sound known.framing l
event_by plan m S (event.Local c line) resolved known once h fit sound l = moving plan S c.0 (λ frame. stepped frame (intent_of plan frame)) (top S.cpus c.0) refl (λ a. stepped_kept a (intent_of plan a)) (λ f t. stepped_waits (frame_of S.cpus f) (intent_of plan (frame_of S.cpus f))) l
event_by plan m S (event.Log c v) resolved known once h fit sound l = moving plan S c.0 (λ frame. goes_on plan frame) (top S.cpus c.0) refl (goes_on_kept plan) (λ f t. at_next_waits (frame_of S.cpus f) (statement_at plan (frame_of S.cpus f))) l
event_by plan m S (event.Spend c n) resolved known once h fit sound l = moving plan S c.0 (λ frame. spending plan S frame n) (top S.cpus c.0) refl (λ a. spending_kept plan S a n) (λ f t. at_next_waits (frame_of S.cpus f) (statement_at plan (frame_of S.cpus f))) l
event_by plan m S (event.Register c a r v) resolved known once h fit sound l = moving plan S c.0 (λ frame. answered plan frame (Num v)) (top S.cpus c.0) refl (λ x. answered_kept plan x (Num v)) (λ f t. sym (idle_at plan m S c a r v h f t)) l
event_by plan m S (event.Did c k v) resolved known once h fit sound l =
    let d : IsDid plan S c.0 k v = did_tells plan m S c k v h in
    at_its_top plan S c.0 d.frame (did_deeds plan S c.0 k v) d.about.top fit sound
    (λ x y. did_call plan S c.0 d.frame known.framing once (top_on S.cpus c.0 d.frame d.about.top) d.about.idle k.kind k.count k.a k.b k.c v d.about.clean x y l)
event_by plan m S (event.Waiting c k) resolved known once h fit sound l =
    let d : IsWaiting plan S c.0 k = waiting_tells plan m S c k h in
    at_its_top plan S c.0 d.frame (waiting_deeds plan S c.0 k) d.about.top fit sound
    (λ x y. waits_call plan S c.0 d.frame known.framing once (top_on S.cpus c.0 d.frame d.about.top) d.about.idle k.kind k.count k.a k.b k.c d.about.clean d.unmet x y l)
event_by plan m S (event.Woke c k v) resolved known once h fit sound l =
    let d : IsWoke S c.0 k v = woke_tells plan m S c k v h in
    at_its_top plan S c.0 d.frame (woke_deeds plan k v) d.top fit sound
    (λ x y. woke_call plan S d.frame (top_on S.cpus c.0 d.frame d.top) k.kind k.count k.a k.b k.c v d.waits l)
event_by plan m S (event.Park c f) resolved known once h fit sound l =
    let t : same_id (top S.cpus c.0) f.0 ≡ true = search (both_left, both_right) in
    rearranged plan S.cpus S.locks S.tree _ _ (λ x. parks (λ y. y == x) S.cpus c.0 f.0 (top_is (top S.cpus c.0) f.0 t)) l
event_by plan m S (event.Unpark c f) resolved known once h fit sound l =
    rearranged plan S.cpus S.locks S.tree _ _ (λ x. unparks (λ y. y == x) S.cpus c.0 f.0 sound.0) l
event_by plan m S (event.End c k o v) resolved known once h fit sound l = end_levels plan S c.0 k o v known.known once (end_tells plan m S c k o v h) l
event_by plan m S (event.Fault c x line) resolved known once h fit sound l = l
event_by plan m S (event.Stage d s i) resolved known once h fit sound l = quiet_event plan (stage_deeds plan d.id.0 s i) S (stage_quiet plan d.id.0 s i) fit sound known.framing l
event_by plan m S (event.Complete r s) resolved known once h fit sound l = quiet_event plan (deeds plan S (event.Complete r s)) S refl fit sound known.framing l
event_by plan m S (event.Cleanup o) resolved known once h fit sound l = quiet_event plan (deeds plan S (event.Cleanup o)) S refl fit sound known.framing l
event_by plan m S (event.Destroy o) resolved known once h fit sound l = quiet_event plan (deeds plan S (event.Destroy o)) S refl fit sound known.framing l
event_by plan m S (event.Posted agent p answer) resolved known once h fit sound l = quiet_event plan (post_deeds plan S agent p) S (post_none plan S agent p) fit sound known.framing l
event_by plan m S (event.Tick time) resolved known once h fit sound l = absurd (let z : ⊥ = cc in z)

-- ---- each place of a run

record KnownLocks {A : Type 0} (plan : Plan) (S : State A) : Type 0 where
  known : KnownAll plan S
  once : Once S.locks

locks_known : {A : Type 0} (plan : Plan) (m : Meaning A) (run : List Event) → IsRunOf plan m run → KnownLocks plan (state_after plan m run)
locks_known {A} plan m run is_run = record {
  known = all_known plan m run is_run;
  once = at_the_end plan m (λ (S : State A). Once S.locks) run (once_at_each plan m run is_run (length run));
}

opens : {A : Type 0} (plan : Plan) (m : Meaning A) → LeveledIn plan (opening plan m)
opens plan m = record {
  now = λ f n more. absurd (let e = none_yet plan (λ x. x == f) in omega arith);
  none = λ f n none. refl;
  own = λ f l more h. absurd (let e = none_yet plan (λ x. x == f) in omega arith);
  early = tt;
  awaits = λ f p more h a. absurd (let e = none_yet plan (λ x. x == f) in omega arith);
  level = λ f more. absurd (let e = none_yet plan (λ x. x == f) in omega arith);
  kind = λ f more h. absurd (let e = none_yet plan (λ x. x == f) in omega arith);
}

pub leveled_at_each : {A : Type 0} (plan : Plan) (m : Meaning A) (run : List Event) → IsResolved plan → IsRunOf plan m run → (n : ℕ) → LeveledIn plan (state_after plan m (take n run))
leveled_at_each {A} plan m run resolved is_run n = each_place_by plan m (λ (S : State A). KnownLocks plan S) (λ (S : State A). LeveledIn plan S) (locks_known plan m) (opens plan m)
    (λ S e k may_come l. event_by plan m S e resolved k.known k.once may_come (event_fits plan m S e may_come) (all_sound plan m S e k.known may_come) l)
    (λ S time l. l) run is_run n
