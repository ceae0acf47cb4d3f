-- What an event does to the steps of devices, by what event it is.
use Rattle.std.proofs.Common.{◌≡◌, ℕ, ◌≤◌, Bool, true, false, not, ◌&&◌, List, [], ◌∷◌, ◌++◌, Option, Some, None, refl, sym, ap, subst, ◌∙◌}
use Rattle.wdf_base.specs.Meaning.{Meaning}
use Rattle.wdf_base.specs.Resolved.{IsResolved}
use Rattle.wdf_base.specs.declared.ids.Cpu.{Cpu}
use Rattle.wdf_base.specs.declared.ids.Handle.{Handle}
use Rattle.wdf_base.specs.declared.plan.Plan.{Plan}
use Rattle.wdf_base.specs.declared.value.Value.{Value}
use Rattle.wdf_base.specs.declared.object.LockRef.{LockRef}
use Rattle.wdf_base.specs.declared.call.Callback.{Callback}
use Rattle.wdf_base.specs.declared.rank.Rank.{Rank}
use Rattle.wdf_base.specs.declared.rank.Rank.TheVariants as rank
use Rattle.wdf_base.specs.declared.event.Ask.{Ask}
use Rattle.wdf_base.specs.declared.event.Event.{Event}
use Rattle.wdf_base.specs.declared.event.Event.TheVariants as event
use Rattle.wdf_base.specs.declared.event.Post.{Post}
use Rattle.wdf_base.specs.declared.event.Post.TheVariants as post
use Rattle.wdf_base.specs.declared.event.Stage.{Stage}
use Rattle.wdf_base.specs.declared.event.Step.{Step}
use Rattle.wdf_base.specs.declared.event.Step.TheVariants as step
use Rattle.wdf_base.specs.declared.frame.Frame.{Frame}
use Rattle.wdf_base.specs.Callbacks.{row_of}
use Rattle.wdf_base.specs.Lives.{is_gone}
use Rattle.wdf_base.specs.Same.{same_option, same_step}
use Rattle.wdf_model.specs.Plans.{callback_irql}
use Rattle.wdf_model.specs.parts.Tree.{life_of, nearest_device}
use Rattle.wdf_model.specs.parts.Cpus.{frame_of}
use Rattle.wdf_model.specs.parts.Locks.{lock_of_callback}
use Rattle.wdf_model.specs.parts.Pnp.{busy, is_running_step, next_step, running_step, steps_left}
use Rattle.wdf_model.specs.parts.Pnp as pnp
use Rattle.wdf_model.specs.State.{State, declared_in, is_proper}
use Rattle.wdf_model.specs.Ids.{cpu_of, frame_id, irql_of, object_id}
use Rattle.wdf_model.specs.declared.deed.Deed.{Deed}
use Rattle.wdf_model.specs.declared.deed.Deed.TheVariants.{EndStep, PopFrame, PushFrame, TakeStep}
use Rattle.wdf_model.specs.rules.Deeds.{counted, do_deeds}
use Rattle.wdf_model.specs.rules.Starts.{effect, end_deeds, end_of_step, interrupt_of_step, is_ready_for, may_pass, new_frame, next_number, rank_ready, rank_ready_for, release_if_any, stage_deeds, stage_ready, start_deeds, start_effect, step_of, step_ready, take_if_any}
use Rattle.wdf_model.specs.rules.Posts.{post_deeds}
use Rattle.wdf_model.specs.rules.Steps.{deeds, may}
use Rattle.law_machine_base.specs.Agreement.{is_sequence}
use Rattle.law_machine_base.specs.Fits.{all_fit}
use Rattle.wdf_model.proofs.Tests.{both_left, both_right, not_true}
use Rattle.law_machine_base.proofs.OwnEvents.{IsEnd, end_tells}
use Rattle.law_machine_base.proofs.FitsOfEvents.{event_fits}
use Rattle.law_machine_counts.proofs.StepEvents.{sequence_is}
use Rattle.law_machine_lives.proofs.LevelEvents.{sound_before}
use Rattle.law_machine_lives.proofs.Sound.{AllSound}
use Rattle.law_machine_lives.proofs.SoundEvents.{top_on}
use Rattle.law_machine_lives.proofs.SoundRuns.{KnownAll, all_sound}
use Rattle.law_trace_requests.proofs.CancelsOverRuns.{started}
use Rattle.law_trace_requests.proofs.FirstParts.{start_reads}
use Rattle.law_trace_power.proofs.Unmoved.{event_none, none_moves, start_effect_none}
use Rattle.law_trace_power.proofs.Calm.{Calm, deeds_calm}
use Rattle.law_trace_power.proofs.Frames.{Runs}
use Rattle.law_trace_power.proofs.Happens.{found_pass, found_run, not_running}
use Rattle.law_trace_power.proofs.Events.{Kept, staged}
use Rattle.wdf_model.proofs.FrameCounts.{on}
use Rattle.law_trace_turns.specs.Turned.{Asked, Begun, Ended, Passed, Still, Turned, is_turning}

-- the count of an event turns nothing
pub counted_too : {A : Type 0} (m : Meaning A) (f : Event) (S U : State A) (e : Event) → Turned S U e → Turned S (counted m f U) e
counted_too m f S U e (Still quiet same) = Still quiet same
counted_too m f S U e (Begun n c j quiet idle next same) = Begun n c j quiet idle next same
counted_too m f S U e (Ended cpu c o v j l is lives runs same) = Ended cpu c o v j l is lives runs same
counted_too m f S U e (Passed n s j is idle next same) = Passed n s j is idle next same
counted_too m f S U e (Asked agent a n answer is free same) = Asked agent a n answer is free same

still_by : {A : Type 0} (plan : Plan) (S : State A) (e : Event) (ds : List Deed) → is_turning e ≡ false → none_moves ds ≡ true → AllSound plan ds S → Turned S (do_deeds plan ds S) e
still_by plan S e ds quiet none sound = Still quiet (deeds_calm plan ds S none sound).pnp

-- ---- starts

module _ {A : Type 0} (plan : Plan) (m : Meaning A) (S : State A) (cpu : Cpu) (c : Callback) (o : Handle) (r : Option Handle) where
  abbrev f : ℕ
  f = next_number S

  abbrev frame : Frame
  frame = new_frame plan S c o r

  abbrev takes : List Deed
  takes = take_if_any f (lock_of_callback plan c o.id.0 (declared_in plan S o.id.0))

  abbrev pushes : Deed
  pushes = PushFrame cpu (frame_id f) frame (irql_of (callback_irql plan c o.id.0))

  starts_other : is_sequence (row_of c).rank ≡ false → AllSound plan (start_deeds plan S cpu.0 c o r) S → Turned S (do_deeds plan (start_deeds plan S cpu.0 c o r) S) (event.Start cpu c o r)
  starts_other other sound =
      let ds : List Deed = start_effect plan S cpu.0 c o.id.0 r in
      let k : Calm S (do_deeds plan ds S) = deeds_calm plan ds S (start_effect_none plan S cpu.0 c o.id.0 r other) (sound_before plan ds (pushes ∷ takes) S sound) in
      Still refl (start_reads (λ (T : State A). T.pnp) (λ T L C. refl) plan S ds cpu.0 f frame (callback_irql plan c o.id.0) (lock_of_callback plan c o.id.0 (declared_in plan S o.id.0)) ∙ k.pnp)

  starts_step : start_effect plan S cpu.0 c o.id.0 r ≡ TakeStep (object_id (nearest_device S.tree o.id.0)) ∷ [] → step_ready S (nearest_device S.tree o.id.0) (step_of plan S c o.id.0) ≡ true
      → Turned S (do_deeds plan (start_deeds plan S cpu.0 c o r) S) (event.Start cpu c o r)
  starts_step ds ready =
      let n : ℕ = nearest_device S.tree o.id.0 in
      let x : Step = step_of plan S c o.id.0 in
      let now : (same_option same_step (next_step S.pnp n) (Some x) && not (is_running_step S.pnp n)) ≡ true = both_left (same_option same_step (next_step S.pnp n) (Some x) && not (is_running_step S.pnp n)) _ ready in
      let idle : running_step S.pnp n ≡ None = not_running (running_step S.pnp n) (not_true (is_running_step S.pnp n) (both_right (same_option same_step (next_step S.pnp n) (Some x)) (not (is_running_step S.pnp n)) now)) in
      subst (λ (y : List Deed). Turned S (do_deeds plan (y ++ pushes ∷ takes) S) (event.Start cpu c o r)) (sym ds)
      (Begun n c _ refl idle (found_run (steps_left S.pnp n) c _ (both_left (same_option same_step (next_step S.pnp n) (Some x)) (not (is_running_step S.pnp n)) now))
      (start_reads (λ (T : State A). T.pnp) (λ T L C. refl) plan S (TakeStep (object_id n) ∷ []) cpu.0 f frame (callback_irql plan c o.id.0) (lock_of_callback plan c o.id.0 (declared_in plan S o.id.0))))

  no_step_for : (x : Rank) (q : ℕ) → is_sequence x ≡ true → rank_ready_for plan S x c o.id.0 q ≡ true → ⊥
  no_step_for rank.Sequence q h l = cc
  no_step_for _ q h l = cc

starts_by : {A : Type 0} (plan : Plan) (m : Meaning A) (S : State A) (cpu : Cpu) (c : Callback) (o : Handle) (r : Option Handle) (b : Bool) → is_sequence (row_of c).rank ≡ b → is_ready_for plan m S cpu.0 c o.id.0 r ≡ true
    → AllSound plan (start_deeds plan S cpu.0 c o r) S → Turned S (do_deeds plan (start_deeds plan S cpu.0 c o r) S) (event.Start cpu c o r)
starts_by plan m S cpu c o r false is ready sound = starts_other plan m S cpu c o r is sound
starts_by plan m S cpu c o None true is ready sound =
    starts_step plan m S cpu c o None (ap (λ x. effect plan S x cpu.0 c o.id.0) (sequence_is (row_of c).rank is)) (sym (ap (λ x. rank_ready plan m S x cpu.0 c o.id.0) (sequence_is (row_of c).rank is)) ∙ ready)
starts_by plan m S cpu c o (Some r) true is ready sound = absurd (no_step_for plan m S cpu c o (Some r) (row_of c).rank r.id.0 is ready)

-- ---- ends

module _ {A : Type 0} (plan : Plan) (m : Meaning A) (S : State A) (es : List Event) (resolved : IsResolved plan) (known : KnownAll plan S) (k : Kept plan S es) where
  ended_pnp : (l : Option LockRef) (cpu n : ℕ) (x : Step) (v : Value) → (do_deeds plan (release_if_any l ++ PopFrame (cpu_of cpu) ∷ EndStep (object_id n) x v ∷ []) S).pnp ≡ pnp.ended S.pnp n x v
  ended_pnp None cpu n x v = refl
  ended_pnp (Some l) cpu n x v = refl

  ends_by : (cpu : Cpu) (c : Callback) (o : Handle) (v : Value) (b : Bool) → is_sequence (row_of c).rank ≡ b → IsEnd plan S cpu.0 c o v → AllSound plan (end_deeds plan S cpu.0 c o.id.0 v) S
      → Turned S (do_deeds plan (end_deeds plan S cpu.0 c o.id.0 v) S) (event.End cpu c o v)
  ends_by cpu c o v false is t sound = still_by plan S (event.End cpu c o v) (end_deeds plan S cpu.0 c o.id.0 v) is (event_none plan S (event.End cpu c o v) is) sound
  ends_by cpu c o v true is t sound =
      let n : ℕ = nearest_device S.tree o.id.0 in
      let x : Step = step_of plan S c o.id.0 in
      let g : ℕ = t.frame in
      let l : Option LockRef = lock_of_callback plan c o.id.0 (declared_in plan S o.id.0) in
      let tail : end_of_step plan S (row_of c).rank c o.id.0 v ≡ EndStep (object_id n) x v ∷ [] = ap (λ y. end_of_step plan S y c o.id.0 v) (sequence_is (row_of c).rank is) in
      let there : 1 ≤ on S.cpus g = top_on S.cpus cpu.0 g t.about.top in
      let at : (frame_of S.cpus g).device.id.0 ≡ n = known.known.frames.device g there ∙ ap (λ (y : Handle). nearest_device S.tree y.id.0) (sym t.object) in
      let runs : Runs S.pnp (frame_of S.cpus g) = k.frames.steps g there (ap (λ y. is_sequence (row_of y).rank) (sym t.callback) ∙ is) in
      let here : running_step S.pnp n ≡ Some (step.Run c runs.0) = sym (ap (running_step S.pnp) at) ∙ runs.1 ∙ ap (λ y. Some (step.Run y runs.0)) (sym t.callback) in
      let lives : is_gone (life_of S.tree o.id.0) ≡ false = ap (λ (y : Handle). is_gone (life_of S.tree y.id.0)) t.object ∙ known.framing.there g there in
      subst (λ (y : List Deed). Turned S (do_deeds plan (release_if_any l ++ PopFrame cpu ∷ y) S) (event.End cpu c o v)) (sym tail)
      (Ended cpu c o v runs.0 (interrupt_of_step plan S o.id.0) refl lives here (ended_pnp l cpu.0 n x v))

  -- ---- posts and stages

  asks : (agent : ℕ) (a : Ask) (device : Handle) (answer : Option Handle) → all_fit plan (post_deeds plan S agent (post.Ask a device)) S ≡ true
      → Turned S (do_deeds plan (post_deeds plan S agent (post.Ask a device)) S) (event.Posted agent (post.Ask a device) answer)
  asks agent a device answer fit = Asked agent a device answer refl (not_true (busy S.pnp device.id.0) (both_left (not (busy S.pnp device.id.0)) true fit)) refl

  stages : (n : Handle) (s : Stage) (j : Option Handle) → may_pass plan S n.id.0 s j ≡ true → AllSound plan (stage_deeds plan n.id.0 s j) S → Turned S (do_deeds plan (stage_deeds plan n.id.0 s j) S) (event.Stage n s j)
  stages n s j may_come sound =
      let ready : step_ready S n.id.0 (step.Pass s j) ≡ true = both_left (step_ready S n.id.0 (step.Pass s j)) (stage_ready plan S n.id.0 s j) may_come in
      let now : (same_option same_step (next_step S.pnp n.id.0) (Some (step.Pass s j)) && not (is_running_step S.pnp n.id.0)) ≡ true = both_left (same_option same_step (next_step S.pnp n.id.0) (Some (step.Pass s j)) && not (is_running_step S.pnp n.id.0)) _ ready in
      let idle : running_step S.pnp n.id.0 ≡ None = not_running (running_step S.pnp n.id.0) (not_true (is_running_step S.pnp n.id.0) (both_right (same_option same_step (next_step S.pnp n.id.0) (Some (step.Pass s j))) (not (is_running_step S.pnp n.id.0)) now)) in
      let t = staged plan m S es resolved known k n.id.0 s j sound.1.1 in
      Passed n s j refl idle (found_pass (steps_left S.pnp n.id.0) s j (both_left (same_option same_step (next_step S.pnp n.id.0) (Some (step.Pass s j))) (not (is_running_step S.pnp n.id.0)) now)) t.pnp

  posts : (agent : ℕ) (p : Post) (answer : Option Handle) → may plan m S (event.Posted agent p answer) ≡ true → Turned S (do_deeds plan (post_deeds plan S agent p) S) (event.Posted agent p answer)
  posts agent (post.Ask a device) answer h = asks agent a device answer (event_fits plan m S (event.Posted agent (post.Ask a device) answer) h)
  posts agent p answer h = still_by plan S (event.Posted agent p answer) (post_deeds plan S agent p) refl (event_none plan S (event.Posted agent p answer) refl) (all_sound plan m S (event.Posted agent p answer) known h)

  -- ---- all events

  pub turns : (e : Event) → may plan m S e ≡ true → Turned S (do_deeds plan (deeds plan S e) S) e
  turns (event.Start cpu c o r) h = starts_by plan m S cpu c o r (is_sequence (row_of c).rank) refl (started plan m S cpu c o r h) (all_sound plan m S (event.Start cpu c o r) known h)
  turns (event.End cpu c o v) h = ends_by cpu c o v (is_sequence (row_of c).rank) refl (end_tells plan m S cpu c o v h) (all_sound plan m S (event.End cpu c o v) known h)
  turns (event.Stage n s j) h = stages n s j (both_right (is_proper plan S n) (may_pass plan S n.id.0 s j) h) (all_sound plan m S (event.Stage n s j) known h)
  turns (event.Posted agent p answer) h = posts agent p answer h
  turns e h = still_by plan S e (deeds plan S e) refl (event_none plan S e refl) (all_sound plan m S e known h)
