-- What an event does to the steps left of devices, to their power, and to the frames that are there.
use Rattle.std.proofs.Common.{◌≡◌, ℕ, ◌≤◌, Bool, true, false, not, ◌&&◌, List, [], ◌∷◌, ◌++◌, ◌⊎◌, inl, inr, Option, Some, None, drop, refl, sym, ap, subst, ◌∙◌, arith}
use Rattle.wdf_base.specs.Meaning.{Meaning}
use Rattle.wdf_base.specs.Resolved.{IsResolved}
use Rattle.wdf_base.specs.declared.ids.Cpu.{Cpu}
use Rattle.wdf_base.specs.declared.ids.Handle.{Handle}
use Rattle.wdf_base.specs.declared.plan.Plan.{Plan}
use Rattle.wdf_base.specs.declared.value.Value.{Value}
use Rattle.wdf_base.specs.declared.object.LockRef.{LockRef}
use Rattle.wdf_base.specs.declared.call.Callback.{Callback}
use Rattle.wdf_base.specs.declared.rank.Rank.{Rank}
use Rattle.wdf_base.specs.declared.rank.Rank.TheVariants as rank
use Rattle.wdf_base.specs.declared.event.Ask.{Ask}
use Rattle.wdf_base.specs.declared.event.Event.{Event}
use Rattle.wdf_base.specs.declared.event.Event.TheVariants as event
use Rattle.wdf_base.specs.declared.event.Post.TheVariants as post
use Rattle.wdf_base.specs.declared.event.Stage.{Stage}
use Rattle.wdf_base.specs.declared.event.Step.{Step}
use Rattle.wdf_base.specs.declared.event.Step.TheVariants as step
use Rattle.wdf_base.specs.declared.frame.Frame.{Frame}
use Rattle.wdf_base.specs.Callbacks.{row_of}
use Rattle.wdf_base.specs.Same.{same_option, same_step}
use Rattle.wdf_model.specs.Plans.{callback_irql}
use Rattle.wdf_model.specs.parts.Tree.{nearest_device}
use Rattle.wdf_model.specs.parts.Cpus.{Cpus, frame_of, top}
use Rattle.wdf_model.specs.parts.Cpus as cpus
use Rattle.wdf_model.specs.parts.Locks.{lock_of_callback}
use Rattle.wdf_model.specs.parts.Power.{advance_stage}
use Rattle.wdf_model.specs.parts.Pnp.{busy, is_running_step, next_step, running_step, steps_left}
use Rattle.wdf_model.specs.parts.Pnp as pnp
use Rattle.wdf_model.specs.State.{State, declared_in, is_proper}
use Rattle.wdf_model.specs.Ids.{cpu_of, frame_id, irql_of, object_id}
use Rattle.wdf_model.specs.declared.deed.Deed.{Deed}
use Rattle.wdf_model.specs.declared.deed.Deed.TheVariants.{EndStep, PopFrame, PushFrame, TakeStep}
use Rattle.wdf_model.specs.rules.Deeds.{do_deed, do_deeds}
use Rattle.wdf_model.specs.rules.Starts.{effect, end_deeds, end_of_step, interrupt_of_step, is_ready_for, may_pass, new_frame, next_number, rank_ready, rank_ready_for, release_if_any, stage_deeds, stage_ready, start_deeds, start_effect, step_of, step_ready, take_if_any}
use Rattle.wdf_model.specs.rules.Posts.{post_deeds}
use Rattle.wdf_model.specs.rules.Steps.{deeds, may}
use Rattle.law_machine_base.specs.Agreement.{is_sequence}
use Rattle.law_machine_base.specs.Fits.{all_fit}
use Rattle.wdf_model.proofs.Counts.{one_or_two}
use Rattle.wdf_model.proofs.Tests.{both_left, both_right, not_true}
use Rattle.law_machine_base.proofs.OwnEvents.{IsEnd, end_tells}
use Rattle.law_machine_base.proofs.FitsOfEvents.{event_fits}
use Rattle.law_machine_counts.proofs.FrameMoves.{FrameKept}
use Rattle.law_machine_counts.proofs.StepStates.{in_turn}
use Rattle.law_machine_lives.proofs.Sound.{AllSound}
use Rattle.law_machine_lives.proofs.SoundEvents.{top_on}
use Rattle.law_machine_lives.proofs.SoundRuns.{KnownAll, all_sound}
use Rattle.law_machine_lives.proofs.FramesStay.{Begins, FramesGoOn, frames_by}
use Rattle.wdf_laws.specs.declared.sign.Sign.TheVariants as sign
use Rattle.wdf_laws.specs.Signs.{shows}
use Rattle.law_trace_requests.proofs.CancelsOverRuns.{started}
use Rattle.law_trace_requests.proofs.FirstParts.{start_reads}
use Rattle.law_trace_power.proofs.Unmoved.{event_none, none_moves, start_effect_none, taking_none}
use Rattle.law_trace_power.proofs.Calm.{Calm, deeds_calm}
use Rattle.law_trace_power.proofs.Frames.{Runs}
use Rattle.law_trace_power.proofs.Happens.{found_pass, found_run, not_running}
use Rattle.law_trace_power.proofs.Events.{Kept, staged}
use Rattle.law_machine_lives.proofs.LevelEvents.{sound_after, sound_before}
use Rattle.law_machine_counts.proofs.StepEvents.{sequence_is}
use Rattle.wdf_model.proofs.FrameCounts.{on}

-- it is no stage at which queues go up or down
abbrev pub NoStage : Event → Type 0
NoStage e = (d : ℕ) → (shows (sign.QueuesUp d) e ≡ false) × (shows (sign.QueuesDown d) e ≡ false)

-- ---- what an event does

pub data Moved {A : Type 0} (plan : Plan) (S U : State A) (e : Event) : Type 0 where
  -- nothing of devices
  Unmoved : NoStage e → U.pnp ≡ S.pnp → U.power.devices ≡ S.power.devices → Moved plan S U e
  -- a step's callback begins, or ends
  Begun : (n : ℕ) (c : Callback) (j : Option Handle) → NoStage e → running_step S.pnp n ≡ None → steps_left S.pnp n ≡ step.Run c j ∷ drop 1 (steps_left S.pnp n)
      → U.pnp ≡ pnp.taken S.pnp n → U.power.devices ≡ S.power.devices → Moved plan S U e
  Ended : (n : ℕ) (c : Callback) (j l : Option Handle) (v : Value) → NoStage e → running_step S.pnp n ≡ Some (step.Run c j)
      → U.pnp ≡ pnp.ended S.pnp n (step.Run c l) v → U.power.devices ≡ S.power.devices → Moved plan S U e
  -- a stage is passed
  Passed : (n : Handle) (s : Stage) (j : Option Handle) → e ≡ event.Stage n s j → may_pass plan S n.id.0 s j ≡ true → running_step S.pnp n.id.0 ≡ None
      → steps_left S.pnp n.id.0 ≡ step.Pass s j ∷ drop 1 (steps_left S.pnp n.id.0) → U.pnp ≡ pnp.taken S.pnp n.id.0 → U.power.devices ≡ (advance_stage S.power n.id.0 s).devices → Moved plan S U e
  -- something is asked of a device
  Asked : (n : ℕ) (a : Ask) → NoStage e → busy S.pnp n ≡ false → U.pnp ≡ pnp.ask S.pnp n a → U.power.devices ≡ S.power.devices → Moved plan S U e

-- a frame that the event begins
pub record IsNew {A : Type 0} (plan : Plan) (S : State A) (e : Event) (frame : Frame) : Type 0 where
  pub cpu : Cpu
  pub callback : Callback
  pub object : Handle
  pub request : Option Handle
  pub event : e ≡ event.Start cpu callback object request
  pub kept : FrameKept (new_frame plan S callback object request) frame

-- the frames that are there after it were there before, or begin by it
abbrev pub FramesFrom : {A : Type 0} → Plan → State A → State A → Event → Type 0
FramesFrom plan S U e = (x : ℕ) → 1 ≤ on U.cpus x → ((1 ≤ on S.cpus x) × FrameKept (frame_of S.cpus x) (frame_of U.cpus x)) ⊎ IsNew plan S e (frame_of U.cpus x)

pub record Change {A : Type 0} (plan : Plan) (S U : State A) (e : Event) : Type 0 where
  pub moved : Moved plan S U e
  pub frames : FramesFrom plan S U e

go_on : {A : Type 0} (plan : Plan) (S U : State A) (e : Event) → FramesGoOn S.cpus U.cpus → FramesFrom plan S U e
go_on plan S U e g x h = inl (g x h)

pub calm_change : {A : Type 0} (plan : Plan) (S : State A) (e : Event) (ds : List Deed) → none_moves ds ≡ true → AllSound plan ds S → NoStage e → Change plan S (do_deeds plan ds S) e
calm_change plan S e ds none sound quiet_ =
    let c : Calm S (do_deeds plan ds S) = deeds_calm plan ds S none sound in
    record { moved = Unmoved quiet_ c.pnp c.devices; frames = go_on plan S (do_deeds plan ds S) e c.frames }

-- ---- starts

module _ {A : Type 0} (plan : Plan) (m : Meaning A) (S : State A) (cpu : Cpu) (c : Callback) (o : Handle) (r : Option Handle) where
  abbrev f : ℕ
  f = next_number S

  abbrev frame : Frame
  frame = new_frame plan S c o r

  abbrev takes : List Deed
  takes = take_if_any f (lock_of_callback plan c o.id.0 (declared_in plan S o.id.0))

  abbrev pushes : Deed
  pushes = PushFrame cpu (frame_id f) frame (irql_of (callback_irql plan c o.id.0))

  abbrev e : Event
  e = event.Start cpu c o r

  frames_begun : (V U : State A) → FramesGoOn S.cpus V.cpus → U ≡ do_deeds plan (pushes ∷ takes) V → AllSound plan (pushes ∷ takes) V → FramesFrom plan S U e
  frames_begun V U g same s =
      let W : State A = do_deed plan pushes V in
      let b : Begins V.cpus W.cpus f frame = frames_by plan pushes V s.0 in
      let t : FramesGoOn W.cpus (do_deeds plan takes W).cpus = (deeds_calm plan takes W (taking_none f (lock_of_callback plan c o.id.0 (declared_in plan S o.id.0))) s.1).frames in
      subst (λ (X : State A). FramesFrom plan S X e) (sym same)
      (λ x h. elim (one_or_two x f) [
        | inl is ↦
            let k = (t x h).1 in
            let here : frame_of W.cpus x ≡ frame = ap (frame_of W.cpus) is ∙ b.here in
            inr (record { cpu = cpu; callback = c; object = o; request = r; event = refl; kept = subst (λ (a : Frame). FrameKept a (frame_of (do_deeds plan takes W).cpus x)) here k })
        | inr n ↦
            let k = t x h in
            let others = b.others x n in
            let there : 1 ≤ on V.cpus x = let y = others.0 in let z = k.0 in omega arith in
            let old = g x there in
            let more : FrameKept (frame_of V.cpus x) (frame_of (do_deeds plan takes W).cpus x) = subst (λ (a : Frame). FrameKept a (frame_of (do_deeds plan takes W).cpus x)) others.1 k.1 in
            inl (old.0, record { callback = more.callback ∙ old.1.callback; object = more.object ∙ old.1.object; device = more.device ∙ old.1.device })
      ])

  starts_other : is_sequence (row_of c).rank ≡ false → AllSound plan (start_deeds plan S cpu.0 c o r) S → Change plan S (do_deeds plan (start_deeds plan S cpu.0 c o r) S) e
  starts_other other sound =
      let ds : List Deed = start_effect plan S cpu.0 c o.id.0 r in
      let U : State A = do_deeds plan (start_deeds plan S cpu.0 c o r) S in
      let k : Calm S (do_deeds plan ds S) = deeds_calm plan ds S (start_effect_none plan S cpu.0 c o.id.0 r other) (sound_before plan ds (pushes ∷ takes) S sound) in
      record {
        moved = Unmoved (λ d. (refl, refl))
            (start_reads (λ (T : State A). T.pnp) (λ T L C. refl) plan S ds cpu.0 f frame (callback_irql plan c o.id.0) (lock_of_callback plan c o.id.0 (declared_in plan S o.id.0)) ∙ k.pnp)
            (start_reads (λ (T : State A). T.power.devices) (λ T L C. refl) plan S ds cpu.0 f frame (callback_irql plan c o.id.0) (lock_of_callback plan c o.id.0 (declared_in plan S o.id.0)) ∙ k.devices);
        frames = frames_begun (do_deeds plan ds S) U k.frames (in_turn plan ds (pushes ∷ takes) S) (sound_after plan ds (pushes ∷ takes) S sound);
      }

  starts_step : start_effect plan S cpu.0 c o.id.0 r ≡ TakeStep (object_id (nearest_device S.tree o.id.0)) ∷ [] → step_ready S (nearest_device S.tree o.id.0) (step_of plan S c o.id.0) ≡ true → AllSound plan (start_deeds plan S cpu.0 c o r) S
      → Change plan S (do_deeds plan (start_deeds plan S cpu.0 c o r) S) e
  starts_step ds ready sound =
      let n : ℕ = nearest_device S.tree o.id.0 in
      let x : Step = step_of plan S c o.id.0 in
      let V : State A = do_deed plan (TakeStep (object_id n)) S in
      let s : AllSound plan (TakeStep (object_id n) ∷ pushes ∷ takes) S = subst (λ (y : List Deed). AllSound plan (y ++ pushes ∷ takes) S) ds sound in
      let now : (same_option same_step (next_step S.pnp n) (Some x) && not (is_running_step S.pnp n)) ≡ true = both_left (same_option same_step (next_step S.pnp n) (Some x) && not (is_running_step S.pnp n)) _ ready in
      let idle : running_step S.pnp n ≡ None = not_running (running_step S.pnp n) (not_true (is_running_step S.pnp n) (both_right (same_option same_step (next_step S.pnp n) (Some x)) (not (is_running_step S.pnp n)) now)) in
      subst (λ (y : List Deed). Change plan S (do_deeds plan (y ++ pushes ∷ takes) S) e) (sym ds) (record {
        moved = Begun n c _ (λ d. (refl, refl)) idle (found_run (steps_left S.pnp n) c _ (both_left (same_option same_step (next_step S.pnp n) (Some x)) (not (is_running_step S.pnp n)) now))
            (start_reads (λ (T : State A). T.pnp) (λ T L C. refl) plan S (TakeStep (object_id n) ∷ []) cpu.0 f frame (callback_irql plan c o.id.0) (lock_of_callback plan c o.id.0 (declared_in plan S o.id.0)))
            (start_reads (λ (T : State A). T.power.devices) (λ T L C. refl) plan S (TakeStep (object_id n) ∷ []) cpu.0 f frame (callback_irql plan c o.id.0) (lock_of_callback plan c o.id.0 (declared_in plan S o.id.0)));
        frames = frames_begun V (do_deeds plan (TakeStep (object_id n) ∷ pushes ∷ takes) S) (λ y h. (h, record { callback = refl; object = refl; device = refl })) refl s.1;
      })

  no_step_for : (x : Rank) (q : ℕ) → is_sequence x ≡ true → rank_ready_for plan S x c o.id.0 q ≡ true → ⊥
  no_step_for rank.Sequence q h l = cc
  no_step_for _ q h l = cc

starts_by : {A : Type 0} (plan : Plan) (m : Meaning A) (S : State A) (cpu : Cpu) (c : Callback) (o : Handle) (r : Option Handle) (b : Bool) → is_sequence (row_of c).rank ≡ b → is_ready_for plan m S cpu.0 c o.id.0 r ≡ true
    → AllSound plan (start_deeds plan S cpu.0 c o r) S → Change plan S (do_deeds plan (start_deeds plan S cpu.0 c o r) S) (event.Start cpu c o r)
starts_by plan m S cpu c o r false is ready sound = starts_other plan m S cpu c o r is sound
starts_by plan m S cpu c o None true is ready sound =
    starts_step plan m S cpu c o None (ap (λ x. effect plan S x cpu.0 c o.id.0) (sequence_is (row_of c).rank is)) (sym (ap (λ x. rank_ready plan m S x cpu.0 c o.id.0) (sequence_is (row_of c).rank is)) ∙ ready) sound
starts_by plan m S cpu c o (Some r) true is ready sound = absurd (no_step_for plan m S cpu c o (Some r) (row_of c).rank r.id.0 is ready)

-- ---- ends

module _ {A : Type 0} (plan : Plan) (m : Meaning A) (S : State A) (es : List Event) (resolved : IsResolved plan) (known : KnownAll plan S) (k : Kept plan S es) where
  ended_pnp : (l : Option LockRef) (cpu n : ℕ) (x : Step) (v : Value) → (do_deeds plan (release_if_any l ++ PopFrame (cpu_of cpu) ∷ EndStep (object_id n) x v ∷ []) S).pnp ≡ pnp.ended S.pnp n x v
  ended_pnp None cpu n x v = refl
  ended_pnp (Some l) cpu n x v = refl

  ended_devices : (l : Option LockRef) (cpu n : ℕ) (x : Step) (v : Value) → (do_deeds plan (release_if_any l ++ PopFrame (cpu_of cpu) ∷ EndStep (object_id n) x v ∷ []) S).power.devices ≡ S.power.devices
  ended_devices None cpu n x v = refl
  ended_devices (Some l) cpu n x v = refl

  ended_cpus : (l : Option LockRef) (cpu n : ℕ) (x : Step) (v : Value) → (do_deeds plan (release_if_any l ++ PopFrame (cpu_of cpu) ∷ EndStep (object_id n) x v ∷ []) S).cpus ≡ cpus.pop S.cpus cpu
  ended_cpus None cpu n x v = refl
  ended_cpus (Some l) cpu n x v = refl

  released_cpus : (l : Option LockRef) → (do_deeds plan (release_if_any l) S).cpus ≡ S.cpus
  released_cpus None = refl
  released_cpus (Some l) = refl

  ends_by : (cpu : Cpu) (c : Callback) (o : Handle) (v : Value) (b : Bool) → is_sequence (row_of c).rank ≡ b → IsEnd plan S cpu.0 c o v → AllSound plan (end_deeds plan S cpu.0 c o.id.0 v) S
      → Change plan S (do_deeds plan (end_deeds plan S cpu.0 c o.id.0 v) S) (event.End cpu c o v)
  ends_by cpu c o v false is t sound =
      calm_change plan S (event.End cpu c o v) (end_deeds plan S cpu.0 c o.id.0 v) (event_none plan S (event.End cpu c o v) is) sound (λ d. (refl, refl))
  ends_by cpu c o v true is t sound =
      let n : ℕ = nearest_device S.tree o.id.0 in
      let x : Step = step_of plan S c o.id.0 in
      let g : ℕ = t.frame in
      let l : Option LockRef = lock_of_callback plan c o.id.0 (declared_in plan S o.id.0) in
      let tail : end_of_step plan S (row_of c).rank c o.id.0 v ≡ EndStep (object_id n) x v ∷ [] = ap (λ y. end_of_step plan S y c o.id.0 v) (sequence_is (row_of c).rank is) in
      let V : State A = do_deeds plan (release_if_any l) S in
      let s = sound_after plan (release_if_any l) (PopFrame cpu ∷ end_of_step plan S (row_of c).rank c o.id.0 v) S sound in
      let goes : FramesGoOn S.cpus (cpus.pop S.cpus cpu.0) = subst (λ (C : Cpus). FramesGoOn C (cpus.pop C cpu.0)) (released_cpus l) (frames_by plan (PopFrame cpu) V s.0).0 in
      let there : 1 ≤ on S.cpus g = top_on S.cpus cpu.0 g t.about.top in
      let at : (frame_of S.cpus g).device.id.0 ≡ n = known.known.frames.device g there ∙ ap (λ (y : Handle). nearest_device S.tree y.id.0) (sym t.object) in
      let runs : Runs S.pnp (frame_of S.cpus g) = k.frames.steps g there (ap (λ y. is_sequence (row_of y).rank) (sym t.callback) ∙ is) in
      let here : running_step S.pnp n ≡ Some (step.Run c runs.0) = sym (ap (running_step S.pnp) at) ∙ runs.1 ∙ ap (λ y. Some (step.Run y runs.0)) (sym t.callback) in
      subst (λ (y : List Deed). Change plan S (do_deeds plan (release_if_any l ++ PopFrame cpu ∷ y) S) (event.End cpu c o v)) (sym tail) (record {
        moved = Ended n c runs.0 (interrupt_of_step plan S o.id.0) v (λ d. (refl, refl)) here (ended_pnp l cpu.0 n x v) (ended_devices l cpu.0 n x v);
        frames = go_on plan S (do_deeds plan (release_if_any l ++ PopFrame cpu ∷ EndStep (object_id n) x v ∷ []) S) (event.End cpu c o v) (subst (λ (C : Cpus). FramesGoOn S.cpus C) (sym (ended_cpus l cpu.0 n x v)) goes);
      })

  asks : (agent : ℕ) (a : Ask) (device : Handle) (answer : Option Handle) → all_fit plan (post_deeds plan S agent (post.Ask a device)) S ≡ true
      → Change plan S (do_deeds plan (post_deeds plan S agent (post.Ask a device)) S) (event.Posted agent (post.Ask a device) answer)
  asks agent a device answer fit = record {
    moved = Asked device.id.0 a (λ d. (refl, refl)) (not_true (busy S.pnp device.id.0) (both_left (not (busy S.pnp device.id.0)) true fit)) refl refl;
    frames = go_on plan S (do_deeds plan (post_deeds plan S agent (post.Ask a device)) S) (event.Posted agent (post.Ask a device) answer) (λ x h. (h, record { callback = refl; object = refl; device = refl }));
  }

  -- ---- stages

  stages : (n : Handle) (s : Stage) (j : Option Handle) → may_pass plan S n.id.0 s j ≡ true → AllSound plan (stage_deeds plan n.id.0 s j) S → Change plan S (do_deeds plan (stage_deeds plan n.id.0 s j) S) (event.Stage n s j)
  stages n s j may_come sound =
      let ready : step_ready S n.id.0 (step.Pass s j) ≡ true = both_left (step_ready S n.id.0 (step.Pass s j)) (stage_ready plan S n.id.0 s j) may_come in
      let now : (same_option same_step (next_step S.pnp n.id.0) (Some (step.Pass s j)) && not (is_running_step S.pnp n.id.0)) ≡ true = both_left (same_option same_step (next_step S.pnp n.id.0) (Some (step.Pass s j)) && not (is_running_step S.pnp n.id.0)) _ ready in
      let idle : running_step S.pnp n.id.0 ≡ None = not_running (running_step S.pnp n.id.0) (not_true (is_running_step S.pnp n.id.0) (both_right (same_option same_step (next_step S.pnp n.id.0) (Some (step.Pass s j))) (not (is_running_step S.pnp n.id.0)) now)) in
      let t = staged plan m S es resolved known k n.id.0 s j sound.1.1 in
      record {
        moved = Passed n s j refl may_come idle (found_pass (steps_left S.pnp n.id.0) s j (both_left (same_option same_step (next_step S.pnp n.id.0) (Some (step.Pass s j))) (not (is_running_step S.pnp n.id.0)) now)) t.pnp t.devices;
        frames = go_on plan S (do_deeds plan (stage_deeds plan n.id.0 s j) S) (event.Stage n s j) t.frames;
      }

  -- ---- all events

  pub changes : (e : Event) → may plan m S e ≡ true → Change plan S (do_deeds plan (deeds plan S e) S) e
  changes (event.Start cpu c o r) h = starts_by plan m S cpu c o r (is_sequence (row_of c).rank) refl (started plan m S cpu c o r h) (all_sound plan m S (event.Start cpu c o r) known h)
  changes (event.End cpu c o v) h = ends_by cpu c o v (is_sequence (row_of c).rank) refl (end_tells plan m S cpu c o v h) (all_sound plan m S (event.End cpu c o v) known h)
  changes (event.Stage n s j) h = stages n s j (both_right (is_proper plan S n) (may_pass plan S n.id.0 s j) h) (all_sound plan m S (event.Stage n s j) known h)
  changes (event.Posted agent (post.Ask a device) answer) h = asks agent a device answer (event_fits plan m S (event.Posted agent (post.Ask a device) answer) h)
  changes e h = calm_change plan S e (deeds plan S e) (event_none plan S e refl) (all_sound plan m S e known h) (λ d. (refl, refl))
