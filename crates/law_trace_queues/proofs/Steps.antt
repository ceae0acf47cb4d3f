-- Each event that may come keeps it that requests return to power-managed queues, and resumes are due, only with power.
use Rattle.std.proofs.Common.{◌≡◌, ℕ, ◌==◌, ◌≤◌, Bool, true, false, not, ◌&&◌, ◌||◌, List, [], ◌∷◌, ◌++◌, Option, Some, None, drop, length, refl, sym, ap, subst, ◌∙◌, arith}
use Rattle.std.proofs.lemmas.Bool.{eqb-true}
use Rattle.wdf_base.specs.Meaning.{Meaning}
use Rattle.wdf_base.specs.declared.ids.Cpu.{Cpu}
use Rattle.wdf_base.specs.declared.ids.Handle.{Handle}
use Rattle.wdf_base.specs.declared.plan.Plan.{Plan}
use Rattle.wdf_base.specs.declared.value.Value.{Value}
use Rattle.wdf_base.specs.declared.object.LockRef.{LockRef}
use Rattle.wdf_base.specs.declared.call.Callback.{Callback}
use Rattle.wdf_base.specs.declared.call.Callback.TheVariants as callback
use Rattle.wdf_base.specs.declared.rank.Rank.{Rank}
use Rattle.wdf_base.specs.declared.rank.Rank.TheVariants as rank
use Rattle.wdf_base.specs.declared.event.Ask.{Ask}
use Rattle.wdf_base.specs.declared.event.Event.{Event}
use Rattle.wdf_base.specs.declared.event.Event.TheVariants as event
use Rattle.wdf_base.specs.declared.event.Post.{Post}
use Rattle.wdf_base.specs.declared.event.Post.TheVariants as post
use Rattle.wdf_base.specs.declared.event.Stage.{Stage}
use Rattle.wdf_base.specs.declared.event.Stage.TheVariants as stage
use Rattle.wdf_base.specs.declared.event.Step.{Step}
use Rattle.wdf_base.specs.declared.event.Step.TheVariants as step
use Rattle.wdf_base.specs.Callbacks.{row_of}
use Rattle.wdf_base.specs.Same.{same_option, same_step}
use Rattle.wdf_model.specs.Plans.{callback_irql}
use Rattle.wdf_model.specs.parts.Tree.{nearest_device}
use Rattle.wdf_model.specs.parts.Cpus.{frame_of, is_running}
use Rattle.wdf_model.specs.parts.Locks.{lock_of_callback}
use Rattle.wdf_model.specs.parts.Power.{advance_stage, opening_power}
use Rattle.wdf_model.specs.parts.Pnp.{Sequence, busy, is_running_step, left_after, next_step, running_step, steps_for, steps_left, taken_step}
use Rattle.wdf_model.specs.parts.Pnp as pnp
use Rattle.wdf_model.specs.State.{State, declared_in, is_proper}
use Rattle.wdf_model.specs.Ids.{frame_id, irql_of, object_id}
use Rattle.wdf_model.specs.declared.deed.Deed.{Deed}
use Rattle.wdf_model.specs.declared.deed.Deed.TheVariants.{AdvancePower, AskDeletion, AskDevice, CloseDevice, CloseReturning, EndStep, PopFrame, PushFrame, TakeStep}
use Rattle.wdf_model.specs.rules.Deeds.{do_deed, do_deeds}
use Rattle.wdf_model.specs.rules.Starts.{effect, end_deeds, end_of_step, is_ready_for, may_pass, may_start, new_frame, next_number, rank_ready, rank_ready_for, release_if_any, resumes_over, stage_deeds, stage_ready, start_deeds, start_effect, step_of, step_ready, take_if_any}
use Rattle.wdf_model.specs.rules.Posts.{post_deeds}
use Rattle.wdf_model.specs.rules.Steps.{deeds, is_cpu, is_proper_if_any, may}
use Rattle.law_machine_base.specs.Agreement.{is_sequence}
use Rattle.law_machine_base.specs.Fits.{all_fit}
use Rattle.wdf_model.proofs.Tests.{both_left, both_right, either_false, not_false, not_true}
use Rattle.law_machine_base.proofs.OwnEvents.{IsEnd, end_tells}
use Rattle.law_machine_base.proofs.FitsOfEvents.{event_fits}
use Rattle.law_machine_counts.proofs.StepStates.{in_turn}
use Rattle.law_machine_lives.proofs.Sound.{AllSound, Sound}
use Rattle.law_machine_lives.proofs.SoundEvents.{top_on}
use Rattle.law_machine_lives.proofs.SoundRuns.{KnownAll, all_sound}
use Rattle.law_trace_power.proofs.Unmoved.{event_none, is_moving, none_moves, start_effect_none, taking_none}
use Rattle.law_trace_power.proofs.Calm.{Calm, deeds_calm}
use Rattle.law_trace_power.proofs.Frames.{Runs, StepFrames, is_step}
use Rattle.law_trace_power.proofs.Happens.{found_pass, not_running}
use Rattle.law_machine_lives.proofs.LevelEvents.{sound_after, sound_before}
use Rattle.law_trace_queues.proofs.Returning.{Backed, backed_by, backed_down, backed_more}
use Rattle.law_trace_queues.proofs.Resuming.{is_advance, none_more_by}
use Rattle.law_trace_queues.proofs.Dues.{AllFit, Dues, IsDue, all_fit_asked, all_fit_ended, all_fit_kept, all_fit_taken, dues_kept, dues_passed, dues_with, goes_down, none_left, none_ready, none_running, others_stay, up_stays}
use Rattle.law_machine_counts.proofs.StepEvents.{sequence_is}
use Rattle.wdf_model.proofs.FrameCounts.{on}

-- only with power do requests return to queues, and are resumes due
pub record WithPower {A : Type 0} (plan : Plan) (S : State A) : Type 0 where
  pub backed : Backed plan S.power.devices S.requests
  pub steps : AllFit S.pnp
  pub dues : Dues plan S.pnp S.power

-- what is known of a state of a run
pub record Knows {A : Type 0} (plan : Plan) (S : State A) : Type 0 where
  pub known : KnownAll plan S
  pub frames : StepFrames S.cpus S.pnp
  pub queues : S.power.queues ≡ (opening_power plan).queues

-- ---- deeds that move no device

not_advance : (d : Deed) → is_moving d ≡ false → is_advance d ≡ false
not_advance (AdvancePower d s) h = absurd (let z : ⊥ = cc in z)
not_advance _ h = refl

one_quiet : {A : Type 0} (plan : Plan) (d : Deed) (S : State A) → is_moving d ≡ false → Sound plan d S → WithPower plan S → WithPower plan (do_deed plan d S)
one_quiet plan d S none sound k =
    let U = do_deed plan d S in
    let c : Calm S U = deeds_calm plan (d ∷ []) S (rw none refl) (sound, tt) in
    record {
      backed = subst (λ D. Backed plan D U.requests) (sym c.devices) (backed_by plan S.power.devices d S sound refl k.backed);
      steps = all_fit_kept S.pnp U.pnp c.pnp k.steps;
      dues = dues_kept plan S.pnp U.pnp S.power U.power c.pnp c.devices (none_more_by plan d S (not_advance d none)) k.dues;
    }

quiet : {A : Type 0} (plan : Plan) (ds : List Deed) (S : State A) → none_moves ds ≡ true → AllSound plan ds S → WithPower plan S → WithPower plan (do_deeds plan ds S)
quiet plan [] S none sound k = k
quiet plan (d ∷ ds) S none sound k =
    quiet plan ds (do_deed plan d S) (both_right (not (is_moving d)) (none_moves ds) none) sound.1
    (one_quiet plan d S (not_true (is_moving d) (both_left (not (is_moving d)) (none_moves ds) none)) sound.0 k)

module _ {A : Type 0} (plan : Plan) (m : Meaning A) (S : State A) (known : Knows plan S) (k : WithPower plan S) where
  -- no resume is due for a device whose next step may come
  none_at : (n : ℕ) (s : Step) → step_ready S n s ≡ true → IsDue plan S.power n → ⊥
  none_at n s ready =
      none_ready plan S.pnp S.power n (not (is_running S.cpus callback.EvtIoResume n)) known.queues
      (both_right (same_option same_step (next_step S.pnp n) (Some s) && not (is_running_step S.pnp n)) (not (pnp.follows_queues_up S.pnp n) || resumes_over S n) ready) k.dues

  -- ---- callbacks begin

  module _ (cpu : Cpu) (c : Callback) (o : Handle) where
    abbrev f : ℕ
    f = next_number S

    abbrev takes : List Deed
    takes = take_if_any f (lock_of_callback plan c o.id.0 (declared_in plan S o.id.0))

    abbrev pushes : Option Handle → Deed
    pushes r = PushFrame cpu (frame_id f) (new_frame plan S c o r) (irql_of (callback_irql plan c o.id.0))

    -- the frame begins, and takes its lock
    frame_begins : (r : Option Handle) (V : State A) → AllSound plan (pushes r ∷ takes) V → WithPower plan V → WithPower plan (do_deeds plan (pushes r ∷ takes) V)
    frame_begins r V sound v =
        quiet plan takes (do_deed plan (pushes r) V) (taking_none f (lock_of_callback plan c o.id.0 (declared_in plan S o.id.0))) sound.1 (record { backed = v.backed; steps = v.steps; dues = v.dues })

    starts_other : (r : Option Handle) → is_sequence (row_of c).rank ≡ false → AllSound plan (start_deeds plan S cpu.0 c o r) S → WithPower plan (do_deeds plan (start_deeds plan S cpu.0 c o r) S)
    starts_other r other sound =
        let ds : List Deed = start_effect plan S cpu.0 c o.id.0 r in
        subst (WithPower plan) (sym (in_turn plan ds (pushes r ∷ takes) S))
        (frame_begins r (do_deeds plan ds S) (sound_after plan ds (pushes r ∷ takes) S sound)
        (quiet plan ds S (start_effect_none plan S cpu.0 c o.id.0 r other) (sound_before plan ds (pushes r ∷ takes) S sound) k))

    starts_step : is_sequence (row_of c).rank ≡ true → step_ready S (nearest_device S.tree o.id.0) (step_of plan S c o.id.0) ≡ true → AllSound plan (start_deeds plan S cpu.0 c o None) S → WithPower plan (do_deeds plan (start_deeds plan S cpu.0 c o None) S)
    starts_step is ready sound =
        let n : ℕ = nearest_device S.tree o.id.0 in
        let ds : start_effect plan S cpu.0 c o.id.0 None ≡ TakeStep (object_id n) ∷ [] = ap (λ x. effect plan S x cpu.0 c o.id.0) (sequence_is (row_of c).rank is) in
        let s : AllSound plan (TakeStep (object_id n) ∷ pushes None ∷ takes) S = subst (λ (x : List Deed). AllSound plan (x ++ pushes None ∷ takes) S) ds sound in
        let T : State A = do_deed plan (TakeStep (object_id n)) S in
        subst (λ (x : List Deed). WithPower plan (do_deeds plan (x ++ pushes None ∷ takes) S)) (sym ds)
        (frame_begins None T s.1 (record {
          backed = k.backed;
          steps = all_fit_taken S.pnp n k.steps;
          dues = dues_with S.pnp n taken_step plan S.power (none_at n (step_of plan S c o.id.0) ready) k.dues;
        }))

    no_step_for : (x : Rank) (r : ℕ) → is_sequence x ≡ true → rank_ready_for plan S x c o.id.0 r ≡ true → ⊥
    no_step_for rank.Sequence r h l = cc
    no_step_for _ r h l = cc

    starts_by : (r : Option Handle) (b : Bool) → is_sequence (row_of c).rank ≡ b → is_ready_for plan m S cpu.0 c o.id.0 r ≡ true → AllSound plan (start_deeds plan S cpu.0 c o r) S → WithPower plan (do_deeds plan (start_deeds plan S cpu.0 c o r) S)
    starts_by r false is ready sound = starts_other r is sound
    starts_by None true is ready sound = starts_step is (sym (ap (λ x. rank_ready plan m S x cpu.0 c o.id.0) (sequence_is (row_of c).rank is)) ∙ ready) sound
    starts_by (Some r) true is ready sound = absurd (no_step_for (row_of c).rank r.id.0 is ready)

    starts : (r : Option Handle) → may_start plan m S cpu.0 c o.id.0 r ≡ true → AllSound plan (start_deeds plan S cpu.0 c o r) S → WithPower plan (do_deeds plan (start_deeds plan S cpu.0 c o r) S)
    starts r may_come sound = let ready : is_ready_for plan m S cpu.0 c o.id.0 r ≡ true = search (both_left, both_right) in starts_by r (is_sequence (row_of c).rank) refl ready sound

    -- ---- callbacks end

    ends_other : (v : Value) → is_sequence (row_of c).rank ≡ false → AllSound plan (end_deeds plan S cpu.0 c o.id.0 v) S → WithPower plan (do_deeds plan (end_deeds plan S cpu.0 c o.id.0 v) S)
    ends_other v other sound =
        quiet plan (end_deeds plan S cpu.0 c o.id.0 v) S
        (event_none plan S (event.End cpu c o v) other)
        sound k

    step_ends : (n : ℕ) (s : Step) (v : Value) (l : Option LockRef) → (IsDue plan S.power n → ⊥) → WithPower plan (do_deeds plan (release_if_any l ++ PopFrame cpu ∷ EndStep (object_id n) s v ∷ []) S)
    step_ends n s v (Some l) none = record {
      backed = k.backed;
      steps = all_fit_ended S.pnp n s v k.steps;
      dues = dues_with S.pnp n (λ q. record q { left = left_after q s v; running = None }) plan S.power none k.dues;
    }
    step_ends n s v None none = record {
      backed = k.backed;
      steps = all_fit_ended S.pnp n s v k.steps;
      dues = dues_with S.pnp n (λ q. record q { left = left_after q s v; running = None }) plan S.power none k.dues;
    }

    ends_step : (v : Value) → is_sequence (row_of c).rank ≡ true → IsEnd plan S cpu.0 c o v → WithPower plan (do_deeds plan (end_deeds plan S cpu.0 c o.id.0 v) S)
    ends_step v is t =
        let n : ℕ = nearest_device S.tree o.id.0 in
        let g : ℕ = t.frame in
        let l : Option LockRef = lock_of_callback plan c o.id.0 (declared_in plan S o.id.0) in
        let tail : end_of_step plan S (row_of c).rank c o.id.0 v ≡ EndStep (object_id n) (step_of plan S c o.id.0) v ∷ [] = ap (λ x. end_of_step plan S x c o.id.0 v) (sequence_is (row_of c).rank is) in
        let there : 1 ≤ on S.cpus g = top_on S.cpus cpu.0 g t.about.top in
        let step_ : is_step (frame_of S.cpus g) ≡ true = ap (λ x. is_sequence (row_of x).rank) (sym t.callback) ∙ is in
        let at : (frame_of S.cpus g).device.id.0 ≡ n = known.known.known.frames.device g there ∙ ap (λ (x : Handle). nearest_device S.tree x.id.0) (sym t.object) in
        let runs : Runs S.pnp (frame_of S.cpus g) = known.frames.steps g there step_ in
        let here : running_step S.pnp n ≡ Some (step.Run (frame_of S.cpus g).callback runs.0) = sym (ap (running_step S.pnp) at) ∙ runs.1 in
        subst (λ (x : List Deed). WithPower plan (do_deeds plan (release_if_any l ++ PopFrame cpu ∷ x) S)) (sym tail)
        (step_ends n (step_of plan S c o.id.0) v l (none_running plan S.pnp S.power n (step.Run (frame_of S.cpus g).callback runs.0) here k.dues))

    ends_by : (v : Value) (b : Bool) → is_sequence (row_of c).rank ≡ b → IsEnd plan S cpu.0 c o v → AllSound plan (end_deeds plan S cpu.0 c o.id.0 v) S → WithPower plan (do_deeds plan (end_deeds plan S cpu.0 c o.id.0 v) S)
    ends_by v true is t sound = ends_step v is t
    ends_by v false is t sound = ends_other v is sound

  -- ---- stages

  module _ (n : ℕ) (s : Stage) (j : Option Handle) where
    -- after the step and its effect on power
    abbrev U : State A
    U = do_deeds plan (TakeStep (object_id n) ∷ AdvancePower (object_id n) (step.Pass s j) ∷ []) S

    steps_now : AllFit U.pnp
    steps_now = all_fit_taken S.pnp n k.steps

    dues_now : may_pass plan S n s j ≡ true → Dues plan U.pnp U.power
    dues_now may_come =
        let ready : step_ready S n (step.Pass s j) ≡ true = both_left (step_ready S n (step.Pass s j)) (stage_ready plan S n s j) may_come in
        let now : (same_option same_step (next_step S.pnp n) (Some (step.Pass s j)) && not (is_running_step S.pnp n)) ≡ true = both_left (same_option same_step (next_step S.pnp n) (Some (step.Pass s j)) && not (is_running_step S.pnp n)) _ ready in
        let next : steps_left S.pnp n ≡ step.Pass s j ∷ drop 1 (steps_left S.pnp n) = found_pass (steps_left S.pnp n) s j (both_left _ (not (is_running_step S.pnp n)) now) in
        let idle : running_step S.pnp n ≡ None = not_running (running_step S.pnp n) (not_true (is_running_step S.pnp n) (both_right (same_option same_step (next_step S.pnp n) (Some (step.Pass s j))) (not (is_running_step S.pnp n)) now)) in
        dues_passed plan S.pnp S.power n (none_at n (step.Pass s j) ready) k.dues s j known.queues idle next (k.steps n)

  -- where its queues don't go down
  rises : (n : ℕ) (s : Stage) (j : Option Handle) → goes_down s ≡ false → may_pass plan S n s j ≡ true → WithPower plan (U n s j)
  rises n s j up may_come = record { backed = backed_more plan S.requests S.power.devices (advance_stage S.power n s).devices (up_stays S.power n s up) k.backed; steps = steps_now n s j; dues = dues_now n s j may_come }

  goes_down_to : (n : ℕ) (j : Option Handle) → may_pass plan S n stage.QueuesDown j ≡ true → Sound plan (CloseReturning (object_id n)) (U n stage.QueuesDown j) → WithPower plan (do_deed plan (CloseReturning (object_id n)) (U n stage.QueuesDown j))
  goes_down_to n j may_come sound =
      let V : State A = U n stage.QueuesDown j in
      let X : State A = do_deed plan (CloseReturning (object_id n)) V in
      let c : Calm V X = deeds_calm plan (CloseReturning (object_id n) ∷ []) V refl (sound, tt) in
      record {
        backed = subst (λ D. Backed plan D X.requests) (sym c.devices) (backed_down plan V n S.power.devices V.power.devices (others_stay S.power n stage.QueuesDown) k.backed);
        steps = all_fit_kept V.pnp X.pnp c.pnp (steps_now n stage.QueuesDown j);
        dues = dues_kept plan V.pnp X.pnp V.power X.power c.pnp c.devices (none_more_by plan (CloseReturning (object_id n)) V refl) (dues_now n stage.QueuesDown j may_come);
      }

  stages : (n : ℕ) (s : Stage) (j : Option Handle) → may_pass plan S n s j ≡ true → AllSound plan (stage_deeds plan n s j) S → WithPower plan (do_deeds plan (stage_deeds plan n s j) S)
  stages n stage.QueuesDown j h sound = goes_down_to n j h sound.1.1.0
  stages n stage.Closed j h sound = quiet plan (CloseDevice (object_id n) ∷ []) (U n stage.Closed j) refl sound.1.1 (rises n stage.Closed j refl h)
  stages n stage.Removed j h sound = quiet plan (AskDeletion (object_id n) ∷ []) (U n stage.Removed j) refl sound.1.1 (rises n stage.Removed j refl h)
  stages n stage.Enabled j h sound = let v = rises n stage.Enabled j refl h in record { backed = v.backed; steps = v.steps; dues = v.dues }
  stages n stage.Disabled j h sound = let v = rises n stage.Disabled j refl h in record { backed = v.backed; steps = v.steps; dues = v.dues }
  stages n stage.Hardware j h sound = rises n stage.Hardware j refl h
  stages n stage.NoHardware j h sound = rises n stage.NoHardware j refl h
  stages n stage.QueuesUp j h sound = rises n stage.QueuesUp j refl h
  stages n stage.Settled j h sound = rises n stage.Settled j refl h
  stages n stage.Quiet j h sound = rises n stage.Quiet j refl h
  stages n stage.Working j h sound = rises n stage.Working j refl h
  stages n stage.Sleeping j h sound = rises n stage.Sleeping j refl h

  -- ---- posts

  asks : (n : ℕ) (a : Ask) → busy S.pnp n ≡ false → WithPower plan (do_deeds plan (AskDevice (object_id n) a ∷ []) S)
  asks n a free =
      let parts = either_false (is_running_step S.pnp n) (not (length (steps_left S.pnp n) == 0)) free in
      record {
        backed = k.backed;
        steps = all_fit_asked S.pnp n a k.steps;
        dues = dues_with S.pnp n (λ q. record q { left = steps_for q.steps q.ever_working q.phase a }) plan S.power (none_left plan S.pnp S.power n (nothing_left (steps_left S.pnp n) parts.1) k.dues) k.dues;
      }
    where
      nothing_left : (ss : List Step) → not (length ss == 0) ≡ false → ss ≡ []
      nothing_left [] x = refl
      nothing_left (s ∷ ss) x = let e : length (s ∷ ss) ≡ 0 = eqb-true (length (s ∷ ss)) 0 (not_false (length (s ∷ ss) == 0) x) in absurd (omega arith)

  posts : (agent : ℕ) (p : Post) → all_fit plan (post_deeds plan S agent p) S ≡ true → AllSound plan (post_deeds plan S agent p) S → WithPower plan (do_deeds plan (post_deeds plan S agent p) S)
  posts agent (post.Ask a device) fit sound = asks device.id.0 a (not_true (busy S.pnp device.id.0) (both_left (not (busy S.pnp device.id.0)) true fit))
  posts agent p fit sound = quiet plan (post_deeds plan S agent p) S (event_none plan S (event.Posted agent p None) refl) sound k

  -- ---- all events

  pub keeps : (e : Event) → may plan m S e ≡ true → WithPower plan (do_deeds plan (deeds plan S e) S)
  keeps (event.Start cpu c o r) h = starts cpu c o r (both_right (is_cpu plan cpu && is_proper plan S o && is_proper_if_any plan S r) (may_start plan m S cpu.0 c o.id.0 r) h) (all_sound plan m S (event.Start cpu c o r) known.known h)
  keeps (event.End cpu c o v) h = ends_by cpu c o v (is_sequence (row_of c).rank) refl (end_tells plan m S cpu c o v h) (all_sound plan m S (event.End cpu c o v) known.known h)
  keeps (event.Stage n s j) h = stages n.id.0 s j (both_right (is_proper plan S n) (may_pass plan S n.id.0 s j) h) (all_sound plan m S (event.Stage n s j) known.known h)
  keeps (event.Posted agent p answer) h = posts agent p (event_fits plan m S (event.Posted agent p answer) h) (all_sound plan m S (event.Posted agent p answer) known.known h)
  keeps e h = quiet plan (deeds plan S e) S (event_none plan S e refl) (all_sound plan m S e known.known h) k
