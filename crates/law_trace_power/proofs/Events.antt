-- What holds of devices, their interrupts and the frames of their steps is kept by each event that may come.
use Rattle.std.proofs.Common.{if◌then◌else◌, ◌≡◌, ◌≢◌, ℕ, ◌+◌, ◌==◌, ◌≤◌, Bool, true, false, not, ◌&&◌, List, [], ◌∷◌, ◌++◌, inl, inr, Option, Some, None, drop, refl, sym, ap, subst, ◌∙◌, arith}
use Rattle.wdf_base.specs.Meaning.{Meaning}
use Rattle.wdf_base.specs.Resolved.{IsResolved}
use Rattle.wdf_base.specs.declared.ids.Cpu.{Cpu}
use Rattle.wdf_base.specs.declared.ids.Handle.{Handle}
use Rattle.wdf_base.specs.declared.plan.Plan.{Plan}
use Rattle.wdf_base.specs.declared.value.Value.{Value}
use Rattle.wdf_base.specs.declared.object.LockRef.{LockRef}
use Rattle.wdf_base.specs.declared.call.Callback.{Callback}
use Rattle.wdf_base.specs.declared.call.Callback.TheVariants as callback
use Rattle.wdf_base.specs.declared.rank.Rank.{Rank}
use Rattle.wdf_base.specs.declared.rank.Rank.TheVariants as rank
use Rattle.wdf_base.specs.declared.event.Ask.{Ask}
use Rattle.wdf_base.specs.declared.event.Event.{Event}
use Rattle.wdf_base.specs.declared.event.Event.TheVariants as event
use Rattle.wdf_base.specs.declared.event.Post.{Post}
use Rattle.wdf_base.specs.declared.event.Post.TheVariants as post
use Rattle.wdf_base.specs.declared.event.Stage.{Stage}
use Rattle.wdf_base.specs.declared.event.Stage.TheVariants as stage
use Rattle.wdf_base.specs.declared.event.Step.TheVariants as step
use Rattle.wdf_base.specs.declared.frame.Frame.{Frame}
use Rattle.wdf_base.specs.Callbacks.{row_of}
use Rattle.wdf_base.specs.Same.{same_callback, same_option, same_step}
use Rattle.wdf_base.specs.Lives.{is_gone}
use Rattle.wdf_model.specs.Tables.{entry, flag, put}
use Rattle.wdf_model.specs.Plans.{callback_irql}
use Rattle.wdf_model.specs.parts.Tree.{life_of, nearest_device}
use Rattle.wdf_model.specs.parts.Cpus.{Cpus, frame_of, top}
use Rattle.wdf_model.specs.parts.Locks.{lock_of_callback}
use Rattle.wdf_model.specs.parts.Power.{Power, advance_stage, no_device_power}
use Rattle.wdf_model.specs.parts.Pnp.{Sequence, busy, is_running_step, next_step, no_sequence, running_step, sequence_of, steps_for, steps_left}
use Rattle.wdf_model.specs.parts.Pnp as pnp
use Rattle.wdf_model.specs.parts.Interrupts.{Interrupts, is_enabled}
use Rattle.wdf_model.specs.parts.Interrupts as interrupts
use Rattle.wdf_model.specs.State.{State, declared_in, declares_in, is_proper}
use Rattle.wdf_model.specs.Ids.{frame_id, irql_of, object_id}
use Rattle.wdf_model.specs.declared.deed.Deed.{Deed}
use Rattle.wdf_model.specs.declared.deed.Deed.TheVariants.{AdvancePower, AskDevice, EndStep, PopFrame, PushFrame, TakeStep}
use Rattle.wdf_model.specs.rules.Deeds.{do_deed, do_deeds}
use Rattle.wdf_model.specs.rules.Starts.{effect, end_deeds, end_of_step, handle_id, interrupt_of_step, is_ready_for, may_pass, may_start, new_frame, next_number, rank_ready, rank_ready_for, release_if_any, stage_deeds, stage_effect, stage_ready, start_deeds, start_effect, step_of, step_ready, take_if_any}
use Rattle.wdf_model.specs.rules.Posts.{post_deeds}
use Rattle.wdf_model.specs.rules.Steps.{deeds, is_cpu, is_proper_if_any, may}
use Rattle.law_machine_base.specs.Agreement.{is_sequence}
use Rattle.law_machine_base.specs.Fits.{all_fit}
use Rattle.wdf_model.proofs.Maps.{entry_put_other, entry_put_same}
use Rattle.wdf_model.proofs.Sames.{callback_decides}
use Rattle.wdf_model.proofs.Tests.{both_left, both_right, not_true}
use Rattle.wdf_model.proofs.Counts.{equal, not_equal, one_or_two}
use Rattle.law_machine_base.proofs.OwnEvents.{IsEnd, end_tells}
use Rattle.law_machine_base.proofs.FitsOfEvents.{event_fits}
use Rattle.law_machine_counts.proofs.FrameMoves.{pop_on}
use Rattle.law_machine_counts.proofs.StepStates.{in_turn}
use Rattle.law_machine_lives.proofs.Sound.{AllSound}
use Rattle.law_machine_lives.proofs.SoundEvents.{top_on}
use Rattle.law_machine_lives.proofs.SoundRuns.{KnownAll, all_sound}
use Rattle.law_machine_lives.proofs.FramesStay.{Begins, FramesGoOn, frames_by}
use Rattle.law_trace_power.specs.Steps.{is_for}
use Rattle.law_machine_lives.proofs.LevelEvents.{sound_after, sound_before}
use Rattle.law_trace_power.proofs.Holding.{Silent, watch}
use Rattle.law_trace_power.proofs.Standings as standings
use Rattle.law_trace_power.proofs.Passing.{enabling, power_by}
use Rattle.law_trace_power.proofs.Unmoved.{event_none, none_moves, releasing_none, start_effect_none, taking_none}
use Rattle.law_trace_power.proofs.Declares.{declares_device, is_power_callback, own_device_of}
use Rattle.law_trace_power.proofs.Calm.{Calm, calm_same, deeds_calm}
use Rattle.law_trace_power.proofs.Frames.{Runs, StepFrames, begun_other, begun_step, frames_kept, is_step, was_step}
use Rattle.law_trace_power.proofs.Happens.{AllHold, end_elsewhere, found_pass, found_run, hold_asked, hold_begun, hold_ended, hold_passed, hold_same, hold_silent, not_running, stage_allowed, start_silent, taken_pass, taken_run}
use Rattle.law_machine_counts.proofs.StepEvents.{sequence_is}
use Rattle.wdf_model.proofs.FrameCounts.{on}

pub record Kept {A : Type 0} (plan : Plan) (S : State A) (es : List Event) : Type 0 where
  pub hold : AllHold plan S.pnp S.power.devices S.interrupts es
  pub frames : StepFrames S.cpus S.pnp

calm_keeps : {A : Type 0} (plan : Plan) (S U : State A) (es : List Event) → Calm S U → AllHold plan S.pnp S.power.devices S.interrupts es → StepFrames S.cpus S.pnp → Kept plan U es
calm_keeps plan S U es c h f = record {
  hold = hold_same plan S.pnp U.pnp S.power.devices U.power.devices S.interrupts U.interrupts es c.pnp c.devices c.interrupts h;
  frames = frames_kept S.cpus U.cpus S.pnp U.pnp c.frames f (λ x on_ is. ap (λ Q. running_step Q (frame_of S.cpus x).device.id.0) c.pnp);
}

pub quiet : {A : Type 0} (plan : Plan) (S : State A) (es : List Event) (e : Event) (ds : List Deed) → none_moves ds ≡ true → AllSound plan ds S → ((d i : ℕ) → Silent d i e) → Kept plan S es → Kept plan (do_deeds plan ds S) (es ++ e ∷ [])
quiet plan S es e ds none sound silent k =
    calm_keeps plan S (do_deeds plan ds S) (es ++ e ∷ []) (deeds_calm plan ds S none sound) (hold_silent plan S.pnp S.power.devices S.interrupts es e silent k.hold) k.frames

-- ---- callbacks begin

pub not_exit : (c : Callback) → is_sequence (row_of c).rank ≡ false → same_callback c callback.EvtDeviceD0Exit ≡ false
not_exit callback.EvtDeviceD0Exit h = absurd (let z : ⊥ = cc in z)
not_exit _ h = refl

pub not_entry : (c : Callback) → is_sequence (row_of c).rank ≡ false → same_callback c callback.EvtDeviceD0Entry ≡ false
not_entry callback.EvtDeviceD0Entry h = absurd (let z : ⊥ = cc in z)
not_entry _ h = refl

power_is : (c x : Callback) → same_callback c x ≡ true → is_power_callback x ≡ true → is_power_callback c ≡ true
power_is c x h p = let same : c ≡ x = (callback_decides c x).0 h in subst (λ y. is_power_callback y ≡ true) (sym same) p

module _ {A : Type 0} (plan : Plan) (m : Meaning A) (S : State A) (es : List Event) (resolved : IsResolved plan) (known : KnownAll plan S) (k : Kept plan S es) where
  module _ (cpu : Cpu) (c : Callback) (o : Handle) where
    abbrev f : ℕ
    f = next_number S

    abbrev takes : List Deed
    takes = take_if_any f (lock_of_callback plan c o.id.0 (declared_in plan S o.id.0))

    abbrev pushes : Option Handle → Deed
    pushes r = PushFrame cpu (frame_id f) (new_frame plan S c o r) (irql_of (callback_irql plan c o.id.0))

    starts_other : (r : Option Handle) → is_sequence (row_of c).rank ≡ false → AllSound plan (start_deeds plan S cpu.0 c o r) S → Kept plan (do_deeds plan (start_deeds plan S cpu.0 c o r) S) (es ++ event.Start cpu c o r ∷ [])
    starts_other r other sound =
        let e : Event = event.Start cpu c o r in
        let ds : List Deed = start_effect plan S cpu.0 c o.id.0 r in
        let V : State A = do_deeds plan ds S in
        let frame : Frame = new_frame plan S c o r in
        let W : State A = do_deed plan (pushes r) V in
        let v : Kept plan V (es ++ e ∷ []) = quiet plan S es e ds (start_effect_none plan S cpu.0 c o.id.0 r other) (sound_before plan ds (pushes r ∷ takes) S sound) (λ d i. start_silent cpu c o r d i (not_exit c other)) k in
        let s : AllSound plan (pushes r ∷ takes) V = sound_after plan ds (pushes r ∷ takes) S sound in
        let b : Begins V.cpus W.cpus f frame = frames_by plan (pushes r) V s.0 in
        subst (λ (X : State A). Kept plan X (es ++ e ∷ [])) (sym (in_turn plan ds (pushes r ∷ takes) S))
        (calm_keeps plan W (do_deeds plan takes W) (es ++ e ∷ []) (deeds_calm plan takes W (taking_none f (lock_of_callback plan c o.id.0 (declared_in plan S o.id.0))) s.1) v.hold
        (begun_other V.cpus W.cpus V.pnp V.pnp f frame b v.frames other (λ d. refl) (λ is. absurd (let off = not_entry c other in let z : ⊥ = cc in z))))

    starts_step : is_sequence (row_of c).rank ≡ true → declares_in plan S c o.id.0 ≡ true → step_ready S (nearest_device S.tree o.id.0) (step_of plan S c o.id.0) ≡ true → AllSound plan (start_deeds plan S cpu.0 c o None) S
        → Kept plan (do_deeds plan (start_deeds plan S cpu.0 c o None) S) (es ++ event.Start cpu c o None ∷ [])
    starts_step is declares ready sound =
        let e : Event = event.Start cpu c o None in
        let n : ℕ = nearest_device S.tree o.id.0 in
        let j : Option Handle = interrupt_of_step plan S o.id.0 in
        let frame : Frame = new_frame plan S c o None in
        let ds : start_effect plan S cpu.0 c o.id.0 None ≡ TakeStep (object_id n) ∷ [] = ap (λ x. effect plan S x cpu.0 c o.id.0) (sequence_is (row_of c).rank is) in
        let s : AllSound plan (TakeStep (object_id n) ∷ pushes None ∷ takes) S = subst (λ (x : List Deed). AllSound plan (x ++ pushes None ∷ takes) S) ds sound in
        let now : (same_option same_step (next_step S.pnp n) (Some (step.Run c j)) && not (is_running_step S.pnp n)) ≡ true = both_left (same_option same_step (next_step S.pnp n) (Some (step.Run c j)) && not (is_running_step S.pnp n)) _ ready in
        let next : steps_left S.pnp n ≡ step.Run c j ∷ drop 1 (steps_left S.pnp n) = found_run (steps_left S.pnp n) c j (both_left _ (not (is_running_step S.pnp n)) now) in
        let idle : running_step S.pnp n ≡ None = not_running (running_step S.pnp n) (not_true (is_running_step S.pnp n) (both_right (same_option same_step (next_step S.pnp n) (Some (step.Run c j))) (not (is_running_step S.pnp n)) now)) in
        let there : is_gone (life_of S.tree o.id.0) ≡ false = s.1.0.0 in
        let own : is_power_callback c ≡ true → o.id.0 ≡ n = λ p. sym (own_device_of plan S o.id.0 known.known.declared there (declares_device plan c (declared_in plan S o.id.0) resolved p declares)) in
        let T : State A = do_deed plan (TakeStep (object_id n)) S in
        let W : State A = do_deed plan (pushes None) T in
        let b : Begins S.cpus W.cpus f frame = frames_by plan (pushes None) T s.1.0 in
        let hold : AllHold plan (pnp.taken S.pnp n) S.power.devices S.interrupts (es ++ e ∷ []) = hold_begun plan es S.pnp S.power.devices S.interrupts k.hold n c j cpu o None idle next (λ x. own (power_is c callback.EvtDeviceD0Exit x refl)) in
        let runs : running_step (pnp.taken S.pnp n) n ≡ Some (step.Run c j) = ap (λ (q : Sequence). q.running) (entry_put_same no_sequence S.pnp.devices n (pnp.taken_step (sequence_of S.pnp n)) ∙ taken_run (sequence_of S.pnp n) c j (drop 1 (steps_left S.pnp n)) next) in
        subst (λ (x : List Deed). Kept plan (do_deeds plan (x ++ pushes None ∷ takes) S) (es ++ e ∷ [])) (sym ds)
        (calm_keeps plan W (do_deeds plan takes W) (es ++ e ∷ []) (deeds_calm plan takes W (taking_none f (lock_of_callback plan c o.id.0 (declared_in plan S o.id.0))) s.1.1) hold
        (begun_step S.cpus W.cpus S.pnp (pnp.taken S.pnp n) f frame b k.frames idle (λ d x. ap (λ (q : Sequence). q.running) (entry_put_other no_sequence S.pnp.devices n d (pnp.taken_step (sequence_of S.pnp n)) x)) (j, runs) (λ x. own (power_is c callback.EvtDeviceD0Entry x refl))))

    no_step_for : (x : Rank) (r : ℕ) → is_sequence x ≡ true → rank_ready_for plan S x c o.id.0 r ≡ true → ⊥
    no_step_for rank.Sequence r h l = cc
    no_step_for _ r h l = cc

    starts_by : (r : Option Handle) (b : Bool) → is_sequence (row_of c).rank ≡ b → declares_in plan S c o.id.0 ≡ true → is_ready_for plan m S cpu.0 c o.id.0 r ≡ true → AllSound plan (start_deeds plan S cpu.0 c o r) S
        → Kept plan (do_deeds plan (start_deeds plan S cpu.0 c o r) S) (es ++ event.Start cpu c o r ∷ [])
    starts_by r false is declares ready sound = starts_other r is sound
    starts_by None true is declares ready sound = starts_step is declares (sym (ap (λ x. rank_ready plan m S x cpu.0 c o.id.0) (sequence_is (row_of c).rank is)) ∙ ready) sound
    starts_by (Some r) true is declares ready sound = absurd (no_step_for (row_of c).rank r.id.0 is ready)

    starts : (r : Option Handle) → may_start plan m S cpu.0 c o.id.0 r ≡ true → AllSound plan (start_deeds plan S cpu.0 c o r) S → Kept plan (do_deeds plan (start_deeds plan S cpu.0 c o r) S) (es ++ event.Start cpu c o r ∷ [])
    starts r may_come sound =
        let declares : declares_in plan S c o.id.0 ≡ true = search (both_left, both_right) in
        let ready : is_ready_for plan m S cpu.0 c o.id.0 r ≡ true = search (both_left, both_right) in
        starts_by r (is_sequence (row_of c).rank) refl declares ready sound

    -- ---- callbacks end

    cpus_same : (l : Option LockRef) → (do_deeds plan (release_if_any l) S).cpus ≡ S.cpus
    cpus_same None = refl
    cpus_same (Some l) = refl

    ends_other : (v : Value) → is_sequence (row_of c).rank ≡ false → AllSound plan (end_deeds plan S cpu.0 c o.id.0 v) S → Kept plan (do_deeds plan (end_deeds plan S cpu.0 c o.id.0 v) S) (es ++ event.End cpu c o v ∷ [])
    ends_other v other sound =
        quiet plan S es (event.End cpu c o v) (end_deeds plan S cpu.0 c o.id.0 v)
        (event_none plan S (event.End cpu c o v) other)
        sound (λ d i. end_elsewhere cpu c o v d i false (not_entry c other) (λ x. absurd (let z : ⊥ = cc in z))) k

    ends_step : (v : Value) → is_sequence (row_of c).rank ≡ true → IsEnd plan S cpu.0 c o v → AllSound plan (end_deeds plan S cpu.0 c o.id.0 v) S → Kept plan (do_deeds plan (end_deeds plan S cpu.0 c o.id.0 v) S) (es ++ event.End cpu c o v ∷ [])
    ends_step v is t sound =
        let e : Event = event.End cpu c o v in
        let n : ℕ = nearest_device S.tree o.id.0 in
        let g : ℕ = t.frame in
        let l : Option LockRef = lock_of_callback plan c o.id.0 (declared_in plan S o.id.0) in
        let ds : List Deed = release_if_any l in
        let tail : end_of_step plan S (row_of c).rank c o.id.0 v ≡ EndStep (object_id n) (step_of plan S c o.id.0) v ∷ [] = ap (λ x. end_of_step plan S x c o.id.0 v) (sequence_is (row_of c).rank is) in
        let V : State A = do_deeds plan ds S in
        let W : State A = do_deed plan (PopFrame cpu) V in
        let X : State A = do_deed plan (EndStep (object_id n) (step_of plan S c o.id.0) v) W in
        let same : V.cpus ≡ S.cpus = cpus_same l in
        let s : AllSound plan (PopFrame cpu ∷ end_of_step plan S (row_of c).rank c o.id.0 v) V = sound_after plan ds (PopFrame cpu ∷ end_of_step plan S (row_of c).rank c o.id.0 v) S sound in
        let kv : Kept plan V es = calm_keeps plan S V es (deeds_calm plan ds S (releasing_none l) (sound_before plan ds (PopFrame cpu ∷ end_of_step plan S (row_of c).rank c o.id.0 v) S sound)) k.hold k.frames in
        let is_top : top V.cpus cpu.0 ≡ Some g = ap (λ C. top C cpu.0) same ∙ t.about.top in
        let there : 1 ≤ on V.cpus g = top_on V.cpus cpu.0 g is_top in
        let there_first : 1 ≤ on S.cpus g = top_on S.cpus cpu.0 g t.about.top in
        let frame : frame_of V.cpus g ≡ frame_of S.cpus g = ap (λ C. frame_of C g) same in
        let step_ : is_step (frame_of V.cpus g) ≡ true = ap is_step frame ∙ ap (λ x. is_sequence (row_of x).rank) (sym t.callback) ∙ is in
        let at : (frame_of V.cpus g).device.id.0 ≡ n = ap (λ (a : Frame). a.device.id.0) frame ∙ known.known.frames.device g there_first ∙ ap (λ (x : Handle). nearest_device S.tree x.id.0) (sym t.object) in
        let calls : (frame_of V.cpus g).callback ≡ c = ap (λ (a : Frame). a.callback) frame ∙ sym t.callback in
        let runs : Runs V.pnp (frame_of V.cpus g) = kv.frames.steps g there step_ in
        let here : running_step V.pnp n ≡ Some (step.Run c runs.0) = sym (ap (running_step V.pnp) at) ∙ runs.1 ∙ ap (λ x. Some (step.Run x runs.0)) calls in
        let enters : same_callback c callback.EvtDeviceD0Entry ≡ true → o.id.0 ≡ n
        = λ x. ap (λ (y : Handle). y.id.0) t.object ∙ sym (ap (λ (a : Frame). a.object.id.0) frame) ∙ kv.frames.entries g there (ap (λ y. same_callback y callback.EvtDeviceD0Entry) calls ∙ x) ∙ at in
        let go : FramesGoOn V.cpus W.cpus = (frames_by plan (PopFrame cpu) V s.0).0 in
        let alone : (x : ℕ) → 1 ≤ on W.cpus x → is_step (frame_of W.cpus x) ≡ true → (frame_of V.cpus x).device.id.0 ≡ n → ⊥
        = λ x on_ is_ d.
        let eq : x ≡ g = kv.frames.single x g (go x on_).0 there (was_step V.cpus W.cpus V.pnp V.pnp go kv.frames x on_ is_) step_ (d ∙ sym at) in
        let gone_ : on W.cpus g + flag (g == g) ≡ on V.cpus g = pop_on V.cpus cpu.0 g is_top g in
        let one : flag (g == g) ≡ 1 = ap flag (equal g g refl) in
        let most : on V.cpus g ≤ 1 = subst (λ (C : Cpus). on C g ≤ 1) (sym same) (known.known.frames.once g) in
        let still : 1 ≤ on W.cpus g = subst (λ y. 1 ≤ on W.cpus y) eq on_ in
        let z : ⊥ = omega arith in z in
        let final : Kept plan X (es ++ e ∷ []) = record {
          hold = hold_ended plan es V.pnp V.power.devices V.interrupts kv.hold n c runs.0 (interrupt_of_step plan S o.id.0) cpu o v here enters;
          frames = frames_kept V.cpus W.cpus V.pnp X.pnp go kv.frames (λ x on_ is_. elim (one_or_two (frame_of V.cpus x).device.id.0 n) [
            | inl d ↦ absurd (alone x on_ is_ d)
            | inr d ↦ ap (λ (q : Sequence). q.running) (entry_put_other no_sequence V.pnp.devices n (frame_of V.cpus x).device.id.0 (record (sequence_of V.pnp n) { left = pnp.left_after (sequence_of V.pnp n) (step_of plan S c o.id.0) v; running = None }) d)
          ]);
        } in
        subst (λ (Y : State A). Kept plan Y (es ++ e ∷ [])) (sym (in_turn plan ds (PopFrame cpu ∷ end_of_step plan S (row_of c).rank c o.id.0 v) S))
        (subst (λ (x : List Deed). Kept plan (do_deeds plan (PopFrame cpu ∷ x) V) (es ++ e ∷ [])) (sym tail) final)

    ends_by : (v : Value) (b : Bool) → is_sequence (row_of c).rank ≡ b → IsEnd plan S cpu.0 c o v → AllSound plan (end_deeds plan S cpu.0 c o.id.0 v) S → Kept plan (do_deeds plan (end_deeds plan S cpu.0 c o.id.0 v) S) (es ++ event.End cpu c o v ∷ [])
    ends_by v true is t sound = ends_step v is t sound
    ends_by v false is t sound = ends_other v is sound

  -- ---- stages

  -- the list of enabled interrupts after a stage
  abbrev pub listed : Stage → Option Handle → Interrupts → Interrupts
  listed stage.Enabled j I = interrupts.enable I (handle_id j)
  listed stage.Disabled j I = interrupts.disable I (handle_id j)
  listed _ j I = I

  pub record Staged (n : ℕ) (s : Stage) (j : Option Handle) (X : State A) : Type 0 where
    pub pnp : X.pnp ≡ pnp.taken S.pnp n
    pub devices : X.power.devices ≡ (advance_stage S.power n s).devices
    pub interrupts : X.interrupts ≡ listed s j S.interrupts
    pub frames : FramesGoOn S.cpus X.cpus

  by_calm : (n : ℕ) (s : Stage) (j : Option Handle) (X : State A) → listed s j S.interrupts ≡ S.interrupts → Calm (do_deeds plan (TakeStep (object_id n) ∷ AdvancePower (object_id n) (step.Pass s j) ∷ []) S) X → Staged n s j X
  by_calm n s j X same c = record { pnp = c.pnp; devices = c.devices; interrupts = c.interrupts ∙ sym same; frames = c.frames }

  pub staged : (n : ℕ) (s : Stage) (j : Option Handle) → AllSound plan (stage_effect plan n s j) (do_deeds plan (TakeStep (object_id n) ∷ AdvancePower (object_id n) (step.Pass s j) ∷ []) S) → Staged n s j (do_deeds plan (stage_deeds plan n s j) S)
  staged n stage.QueuesDown j sound = by_calm n stage.QueuesDown j _ refl (deeds_calm plan (stage_effect plan n stage.QueuesDown j) (do_deeds plan (TakeStep (object_id n) ∷ AdvancePower (object_id n) (step.Pass stage.QueuesDown j) ∷ []) S) refl sound)
  staged n stage.Closed j sound = by_calm n stage.Closed j _ refl (deeds_calm plan (stage_effect plan n stage.Closed j) (do_deeds plan (TakeStep (object_id n) ∷ AdvancePower (object_id n) (step.Pass stage.Closed j) ∷ []) S) refl sound)
  staged n stage.Removed j sound = by_calm n stage.Removed j _ refl (deeds_calm plan (stage_effect plan n stage.Removed j) (do_deeds plan (TakeStep (object_id n) ∷ AdvancePower (object_id n) (step.Pass stage.Removed j) ∷ []) S) refl sound)
  staged n _ j sound = record { pnp = refl; devices = refl; interrupts = refl; frames = (calm_same S).frames }

  power_here : (P : Power) (n : ℕ) (s : Stage) → entry no_device_power (advance_stage P n s).devices n ≡ power_by s (entry no_device_power P.devices n)
  power_here P n stage.Hardware = entry_put_same no_device_power P.devices n (record (entry no_device_power P.devices n) { hardware = true })
  power_here P n stage.NoHardware = entry_put_same no_device_power P.devices n (record (entry no_device_power P.devices n) { hardware = false })
  power_here P n stage.QueuesUp = entry_put_same no_device_power P.devices n (record (entry no_device_power P.devices n) { up = true })
  power_here P n stage.QueuesDown = entry_put_same no_device_power P.devices n (record (entry no_device_power P.devices n) { up = false })
  power_here P n _ = refl

  power_there : (P : Power) (n : ℕ) (s : Stage) (d : ℕ) → d ≢ n → entry no_device_power (advance_stage P n s).devices d ≡ entry no_device_power P.devices d
  power_there P n stage.Hardware d x = entry_put_other no_device_power P.devices n d (record (entry no_device_power P.devices n) { hardware = true }) x
  power_there P n stage.NoHardware d x = entry_put_other no_device_power P.devices n d (record (entry no_device_power P.devices n) { hardware = false }) x
  power_there P n stage.QueuesUp d x = entry_put_other no_device_power P.devices n d (record (entry no_device_power P.devices n) { up = true }) x
  power_there P n stage.QueuesDown d x = entry_put_other no_device_power P.devices n d (record (entry no_device_power P.devices n) { up = false }) x
  power_there P n _ d x = refl

  listed_by : (xs : List Bool) (x : ℕ) (to : Bool) (i : ℕ) → entry false (put false xs x to) i ≡ (if x == i then to else entry false xs i)
  listed_by xs x to i = elim (one_or_two i x) [
    | inl e ↦ rw (e, equal x x refl) (entry_put_same false xs x to)
    | inr n ↦ rw (not_equal x i (λ y. n (sym y))) (entry_put_other false xs x i to n)
  ]

  pub enabled_after : (s : Stage) (j : Option Handle) (a : standings.Standing) (w : standings.Watch) → standings.may_pass w s j a ≡ true → (i : ℕ) → is_enabled (listed s j S.interrupts) i ≡ enabling s (is_for i j) (is_enabled S.interrupts i)
  enabled_after stage.Enabled (Some x) a w may_come i = listed_by S.interrupts.enabled x.id.0 true i
  enabled_after stage.Enabled None a w may_come i = absurd (let t : (a.entered && false) ≡ true = both_left (a.entered && false) _ (both_left _ _ may_come) in let u : false ≡ true = both_right a.entered false t in let z : ⊥ = cc in z)
  enabled_after stage.Disabled (Some x) a w may_come i = listed_by S.interrupts.enabled x.id.0 false i
  enabled_after stage.Disabled None a w may_come i = absurd (let z : ⊥ = cc in z)
  enabled_after _ j a w may_come i = refl

  stages : (n : Handle) (s : Stage) (j : Option Handle) → may_pass plan S n.id.0 s j ≡ true → AllSound plan (stage_deeds plan n.id.0 s j) S → Kept plan (do_deeds plan (stage_deeds plan n.id.0 s j) S) (es ++ event.Stage n s j ∷ [])
  stages n s j may_come sound =
      let ready : step_ready S n.id.0 (step.Pass s j) ≡ true = both_left (step_ready S n.id.0 (step.Pass s j)) (stage_ready plan S n.id.0 s j) may_come in
      let now : (same_option same_step (next_step S.pnp n.id.0) (Some (step.Pass s j)) && not (is_running_step S.pnp n.id.0)) ≡ true = both_left (same_option same_step (next_step S.pnp n.id.0) (Some (step.Pass s j)) && not (is_running_step S.pnp n.id.0)) _ ready in
      let next : steps_left S.pnp n.id.0 ≡ step.Pass s j ∷ drop 1 (steps_left S.pnp n.id.0) = found_pass (steps_left S.pnp n.id.0) s j (both_left _ (not (is_running_step S.pnp n.id.0)) now) in
      let idle : running_step S.pnp n.id.0 ≡ None = not_running (running_step S.pnp n.id.0) (not_true (is_running_step S.pnp n.id.0) (both_right (same_option same_step (next_step S.pnp n.id.0) (Some (step.Pass s j))) (not (is_running_step S.pnp n.id.0)) now)) in
      let X : State A = do_deeds plan (stage_deeds plan n.id.0 s j) S in
      let t : Staged n.id.0 s j X = staged n.id.0 s j sound.1.1 in
      let e : Event = event.Stage n s j in
      record {
        hold = hold_same plan (pnp.taken S.pnp n.id.0) X.pnp (advance_stage S.power n.id.0 s).devices X.power.devices (listed s j S.interrupts) X.interrupts (es ++ e ∷ []) t.pnp t.devices t.interrupts
            (hold_passed plan es S.pnp S.power.devices S.interrupts k.hold n s j (advance_stage S.power n.id.0 s).devices (listed s j S.interrupts) idle next (power_here S.power n.id.0 s) (power_there S.power n.id.0 s)
            (enabled_after s j (k.hold n.id.0 0).standing (watch plan n.id.0 0) (stage_allowed plan es S.pnp S.power.devices S.interrupts k.hold n s j idle next 0)));
        frames = frames_kept S.cpus X.cpus S.pnp X.pnp t.frames k.frames (λ x on_ is_. ap (λ Q. running_step Q (frame_of S.cpus x).device.id.0) t.pnp ∙ runs_on n.id.0 s j idle next (frame_of S.cpus x).device.id.0);
      }
    where
      passed_on : (s : Stage) (q : Sequence) → (pnp.passed s q).running ≡ q.running
      passed_on stage.Working q = refl
      passed_on stage.Sleeping q = refl
      passed_on stage.Removed q = refl
      passed_on _ q = refl

      runs_on : (n : ℕ) (s : Stage) (j : Option Handle) → running_step S.pnp n ≡ None → steps_left S.pnp n ≡ step.Pass s j ∷ drop 1 (steps_left S.pnp n) → (d : ℕ) → running_step (pnp.taken S.pnp n) d ≡ running_step S.pnp d
      runs_on n s j idle next d = elim (one_or_two d n) [
        | inl x ↦ rw x (ap (λ (q : Sequence). q.running) (entry_put_same no_sequence S.pnp.devices n (pnp.taken_step (sequence_of S.pnp n)) ∙ taken_pass (sequence_of S.pnp n) s j (drop 1 (steps_left S.pnp n)) next) ∙ passed_on s (record (sequence_of S.pnp n) { left = drop 1 (steps_left S.pnp n) }))
        | inr x ↦ ap (λ (q : Sequence). q.running) (entry_put_other no_sequence S.pnp.devices n d (pnp.taken_step (sequence_of S.pnp n)) x)
      ]

  -- ---- posts

  asks : (n : ℕ) (a : Ask) (e : Event) → busy S.pnp n ≡ false → ((d i : ℕ) → Silent d i e) → Kept plan (do_deeds plan (AskDevice (object_id n) a ∷ []) S) (es ++ e ∷ [])
  asks n a e free silent = record {
    hold = hold_asked plan es S.pnp S.power.devices S.interrupts k.hold n a e free silent;
    frames = frames_kept S.cpus S.cpus S.pnp (pnp.ask S.pnp n a) (calm_same S).frames k.frames (λ x on_ is_. runs_on (frame_of S.cpus x).device.id.0);
  }
    where
      runs_on : (d : ℕ) → running_step (pnp.ask S.pnp n a) d ≡ running_step S.pnp d
      runs_on d = elim (one_or_two d n) [
        | inl x ↦ rw x (ap (λ (q : Sequence). q.running) (entry_put_same no_sequence S.pnp.devices n (record (sequence_of S.pnp n) { left = steps_for (sequence_of S.pnp n).steps (sequence_of S.pnp n).ever_working (sequence_of S.pnp n).phase a })))
        | inr x ↦ ap (λ (q : Sequence). q.running) (entry_put_other no_sequence S.pnp.devices n d (record (sequence_of S.pnp n) { left = steps_for (sequence_of S.pnp n).steps (sequence_of S.pnp n).ever_working (sequence_of S.pnp n).phase a }) x)
      ]

  -- ---- all events

  posts : (agent : ℕ) (p : Post) (answer : Option Handle) → all_fit plan (post_deeds plan S agent p) S ≡ true → AllSound plan (post_deeds plan S agent p) S → Kept plan (do_deeds plan (post_deeds plan S agent p) S) (es ++ event.Posted agent p answer ∷ [])
  posts agent (post.Ask a device) answer fit sound = asks device.id.0 a (event.Posted agent (post.Ask a device) answer) (not_true (busy S.pnp device.id.0) (both_left (not (busy S.pnp device.id.0)) true fit)) (λ d i. record { entered = refl; exit = refl; enabled = refl; disabled = refl; up = refl; down = refl })
  posts agent p answer fit sound = quiet plan S es (event.Posted agent p answer) (post_deeds plan S agent p) (event_none plan S (event.Posted agent p answer) refl) sound (λ d i. record { entered = refl; exit = refl; enabled = refl; disabled = refl; up = refl; down = refl }) k

  pub keeps : (e : Event) → may plan m S e ≡ true → Kept plan (do_deeds plan (deeds plan S e) S) (es ++ e ∷ [])
  keeps (event.Start cpu c o r) h = starts cpu c o r (both_right (is_cpu plan cpu && is_proper plan S o && is_proper_if_any plan S r) (may_start plan m S cpu.0 c o.id.0 r) h) (all_sound plan m S (event.Start cpu c o r) known h)
  keeps (event.End cpu c o v) h = ends_by cpu c o v (is_sequence (row_of c).rank) refl (end_tells plan m S cpu c o v h) (all_sound plan m S (event.End cpu c o v) known h)
  keeps (event.Stage n s j) h = stages n s j (both_right (is_proper plan S n) (may_pass plan S n.id.0 s j) h) (all_sound plan m S (event.Stage n s j) known h)
  keeps (event.Posted agent p answer) h = posts agent p answer (event_fits plan m S (event.Posted agent p answer) h) (all_sound plan m S (event.Posted agent p answer) known h)
  keeps e h = quiet plan S es e (deeds plan S e) (event_none plan S e refl) (all_sound plan m S e known h) (λ d i. record { entered = refl; exit = refl; enabled = refl; disabled = refl; up = refl; down = refl }) k
