-- While a frame of EvtIoStop is there, the next step of its device is `settled`: at each place of a free run.
use Rattle.std.proofs.Common.{◌≡◌, ◌≢◌, ℕ, ◌==◌, ◌≤◌, Bool, true, false, not, ◌&&◌, List, [], ◌∷◌, ◌++◌, inl, inr, Option, Some, None, drop, length, refl, sym, ap, subst, ◌∙◌, arith}
use Rattle.std.specs.Prelude.{⊤}
use Rattle.std.specs.List.{list_all}
use Rattle.wdf_base.specs.Meaning.{Meaning}
use Rattle.wdf_base.specs.Resolved.{IsResolved}
use Rattle.wdf_base.specs.declared.plan.Plan.{Plan}
use Rattle.wdf_base.specs.declared.ids.Cpu.{Cpu}
use Rattle.wdf_base.specs.declared.ids.Handle.{Handle}
use Rattle.wdf_base.specs.declared.call.Callback.{Callback}
use Rattle.wdf_base.specs.declared.call.Callback.TheVariants as callback
use Rattle.wdf_base.specs.declared.event.Event.{Event}
use Rattle.wdf_base.specs.declared.event.Event.TheVariants as event
use Rattle.wdf_base.specs.declared.event.Stage.{Stage}
use Rattle.wdf_base.specs.declared.event.Stage.TheVariants as stage
use Rattle.wdf_base.specs.declared.event.Step.{Step}
use Rattle.wdf_base.specs.declared.event.Step.TheVariants as step
use Rattle.wdf_base.specs.declared.frame.Frame.{Frame}
use Rattle.wdf_base.specs.declared.rank.Rank.{Rank}
use Rattle.wdf_base.specs.declared.rank.Rank.TheVariants as rank
use Rattle.wdf_base.specs.declared.value.Value.{Value}
use Rattle.wdf_base.specs.Callbacks.{row_of}
use Rattle.wdf_base.specs.Lives.{is_live}
use Rattle.wdf_base.specs.Same.{same_callback, same_option, same_step}
use Rattle.wdf_model.specs.Ids.{cpu_of, frame_id, irql_of, object_id}
use Rattle.wdf_model.specs.Plans.{callback_irql, device_of_queue, is_managed, managed_queues, queue_of}
use Rattle.wdf_base.specs.declared.object.LockRef.{LockRef}
use Rattle.wdf_base.specs.Plan.{declared_of}
use Rattle.wdf_model.specs.parts.Cpus.{Cpus, all_frames, frame_of, nobody_on}
use Rattle.wdf_model.specs.parts.Locks.{lock_of_callback}
use Rattle.wdf_model.specs.parts.Pnp.{Pnp, Sequence, busy, is_running_step, left_after, next_step, no_sequence, sequence_of, steps_for, steps_left, taken_step, with_sequence}
use Rattle.wdf_model.specs.parts.Power.{stop_was_asked, unsettled}
use Rattle.wdf_model.specs.parts.Tree.{life_of, nearest_device}
use Rattle.wdf_model.specs.State.{State, declared_in, is_held_from, is_proper, opening}
use Rattle.wdf_model.specs.declared.deed.Deed.{Deed}
use Rattle.wdf_model.specs.declared.deed.Deed.TheVariants.{AskDevice, EndStep, PopFrame, PushFrame, TakeStep}
use Rattle.wdf_model.specs.rules.Deeds.{do_deed, do_deeds}
use Rattle.wdf_model.specs.rules.Starts.{effect, effect_for, end_of_step, interrupt_of_step, is_ready_for, is_settled, may_pass, may_start, new_frame, next_number, rank_ready, release_if_any, stage_effect, stage_ready, start_effect, step_of, step_ready, take_if_any}
use Rattle.wdf_model.specs.rules.Steps.{after, deeds, is_cpu, is_proper_if_any, may}
use Rattle.law_machine_base.specs.Agreement.{is_sequence, is_step_frame}
use Rattle.law_machine_base.specs.Fits.{all_fit, fits}
use Rattle.law_machine_base.proofs.FitsOfEvents.{event_fits}
use Rattle.law_machine_base.proofs.OwnEvents.{IsEnd, end_tells}
use Rattle.wdf_model.proofs.Counts.{equal, one_or_two}
use Rattle.wdf_model.proofs.Maps.{entry_put_other}
use Rattle.wdf_model.proofs.FrameCounts.{on, seen}
use Rattle.wdf_model.proofs.Sames.{callback_decides}
use Rattle.wdf_model.proofs.Tests.{both, both_left, both_right, either_false, not_true}
use Rattle.law_machine_deeds.specs.MayDo.{ends_step, is_stage, is_start, may_do, starts_step}
use Rattle.law_machine_deeds.proofs.Passing.{event_passes}
use Rattle.law_machine_counts.proofs.FrameMoves.{FrameKept, kept_same}
use Rattle.law_machine_counts.proofs.StepsOverRuns.{none_yet}
use Rattle.law_machine_counts.proofs.StillFrames.{live_there}
use Rattle.law_machine_lives.proofs.AllOf.{AllOf, all_behind, all_such}
use Rattle.law_machine_lives.proofs.ReasonsOfEvents.{top_on}
use Rattle.wdf_laws.specs.Laws.{is_managed_of}
use Rattle.law_trace_power.proofs.Happens.{found_pass, found_run}
use Rattle.law_trace_requests.proofs.CancelsOverRuns.{started}
use Rattle.law_trace_settled.proofs.Along.{passes}
use Rattle.law_trace_settled.proofs.Along as along
use Rattle.law_machine_lives.proofs.FramesStay.{Begins, FramesGoOn, frames_by}
use Rattle.law_machine_lives.proofs.Framing.{off_it}
use Rattle.law_machine_lives.proofs.Sound.{AllSound, Sound}
use Rattle.law_machine_lives.proofs.SoundRuns.{all_sound}
use Rattle.law_trace_settled.proofs.Never.{not_empty}
use Rattle.law_trace_settled.proofs.Queues.{of_device, of_each, queue_at}
use Rattle.law_trace_settled.proofs.Stops.{IsNext, StopFrames, StopsAt, same_stage_of, start_parts, unlike}
use Rattle.law_free_runs.proofs.FreeStates.{FreeState, known_all}
use Rattle.law_free_stops.proofs.Near.{Kin, kin_by, kin_opens, near}
use Rattle.law_free_stops.proofs.Ways.{OnWay, Ways, pnp_stays, ways_by, ways_open}
use Rattle.law_machine_counts.proofs.Totals.{flagged}
use Rattle.law_machine_lives.proofs.Lists.{none_left}

-- what is asked of a deed where it is done, so that it leaves `settled` the next step
abbrev pub Minds : {A : Type 0} → Plan → Deed → State A → Type 0
Minds plan (PushFrame cpu f frame level) S = same_callback frame.callback callback.EvtIoStop ≡ true → StopsAt plan S.pnp frame
Minds plan (TakeStep d) S = (f : ℕ) → 1 ≤ on S.cpus f → same_callback (frame_of S.cpus f).callback callback.EvtIoStop ≡ true → (frame_of S.cpus f).device.id.0 ≡ d.0 → ⊥
Minds plan (EndStep d s v) S = IsNext S.pnp d.0 → ⊥
Minds plan _ S = ⊤

abbrev pub AllMind : {A : Type 0} → Plan → List Deed → State A → Type 0
AllMind {A} plan ds S = AllOf plan (λ (d : Deed) (U : State A). Minds plan d U) ds S

-- ---- the next step stays

next_other : (Q : Pnp) (n : ℕ) (f : Sequence → Sequence) (d : ℕ) → d ≢ n → IsNext Q d → IsNext (with_sequence Q n f) d
next_other Q n f d x k =
    let e : steps_left (with_sequence Q n f) d ≡ steps_left Q d = ap (λ (q : Sequence). q.left) (entry_put_other no_sequence Q.devices n d (f (sequence_of Q n)) x) in
    (k.0, subst (λ ss. ss ≡ step.Pass stage.Settled k.0 ∷ drop 1 ss) (sym e) k.1)

stays_kept : (plan : Plan) (Q : Pnp) (a b : Frame) → FrameKept a b → StopsAt plan Q a → StopsAt plan Q b
stays_kept plan Q a b k s = record {
  managed = ap (λ (y : Handle). is_managed_of y.id.0 (queue_of plan b.object.id.0)) k.device ∙ ap (λ (y : Handle). is_managed_of a.device.id.0 (queue_of plan y.id.0)) k.object ∙ s.managed;
  next = subst (λ (y : Handle). IsNext Q y.id.0) (sym k.device) s.next;
}

-- where frames go on, and the next step of each such frame's device stays
all_stay : (plan : Plan) (C D : Cpus) (Q R : Pnp) → FramesGoOn C D → ((f : ℕ) → 1 ≤ on C f → same_callback (frame_of C f).callback callback.EvtIoStop ≡ true → IsNext Q (frame_of C f).device.id.0 → IsNext R (frame_of C f).device.id.0)
    → StopFrames plan C Q → StopFrames plan D R
all_stay plan C D Q R go keep stops f there is =
    let g = go f there in
    let was : same_callback (frame_of C f).callback callback.EvtIoStop ≡ true = ap (λ c. same_callback c callback.EvtIoStop) (sym g.1.callback) ∙ is in
    let s : StopsAt plan Q (frame_of C f) = stops f g.0 was in
    stays_kept plan R (frame_of C f) (frame_of D f) g.1 (record { managed = s.managed; next = keep f g.0 was s.next })

pub stops_by : {A : Type 0} (plan : Plan) (d : Deed) (S : State A) → fits plan d S ≡ true → Sound plan d S → Minds plan d S → StopFrames plan S.cpus S.pnp → StopFrames plan (do_deed plan d S).cpus (do_deed plan d S).pnp
stops_by {A} plan (PushFrame cpu f frame level) S fit s minds stops =
    let D : Cpus = (do_deed plan (PushFrame cpu f frame level) S).cpus in
    let b : Begins S.cpus D f.0 frame = frames_by plan (PushFrame cpu f frame level) S s in
    λ x there is. elim (one_or_two x f.0) [
      | inl e ↦
          let here : frame_of D x ≡ frame = ap (frame_of D) e ∙ b.here in
          subst (StopsAt plan S.pnp) (sym here) (minds (sym (ap (λ (a : Frame). same_callback a.callback callback.EvtIoStop) here) ∙ is))
      | inr n ↦
          let o = b.others x n in let same = o.0 in
          subst (StopsAt plan S.pnp) (sym o.1) (stops x (omega arith) (sym (ap (λ (a : Frame). same_callback a.callback callback.EvtIoStop) o.1) ∙ is))
    ]
stops_by plan (PopFrame cpu) S fit s minds stops = all_stay plan S.cpus (do_deed plan (PopFrame cpu) S).cpus S.pnp S.pnp (frames_by plan (PopFrame cpu) S s).0 (λ f there is n. n) stops
stops_by plan (TakeStep d) S fit s minds stops = all_stay plan S.cpus S.cpus S.pnp _ (λ x h. (h, kept_same (frame_of S.cpus x) (frame_of S.cpus x) refl)) (λ f there is n. next_other S.pnp d.0 taken_step (frame_of S.cpus f).device.id.0 (minds f there is) n) stops
stops_by plan (EndStep d t v) S fit s minds stops = all_stay plan S.cpus S.cpus S.pnp _ (λ x h. (h, kept_same (frame_of S.cpus x) (frame_of S.cpus x) refl)) (λ f there is n. elim (one_or_two (frame_of S.cpus f).device.id.0 d.0) [
  | inl e ↦ absurd (minds (subst (IsNext S.pnp) e n))
  | inr x ↦ next_other S.pnp d.0 (λ q. record q { left = left_after q t v; running = None }) (frame_of S.cpus f).device.id.0 x n
]) stops
stops_by plan (AskDevice d a) S fit s minds stops = all_stay plan S.cpus S.cpus S.pnp _ (λ x h. (h, kept_same (frame_of S.cpus x) (frame_of S.cpus x) refl)) (λ f there is n. elim (one_or_two (frame_of S.cpus f).device.id.0 d.0) [
  | inl e ↦ absurd (
      let free : busy S.pnp d.0 ≡ false = not_true (busy S.pnp d.0) fit in
      let empty : steps_left S.pnp d.0 ≡ [] = none_left (steps_left S.pnp d.0) (either_false (is_running_step S.pnp d.0) (not (length (steps_left S.pnp d.0) == 0)) free).1 in
      let m : IsNext S.pnp d.0 = subst (IsNext S.pnp) e n in
      not_empty (step.Pass stage.Settled m.0) (drop 1 (steps_left S.pnp d.0)) (sym empty ∙ m.1))
  | inr x ↦ next_other S.pnp d.0 (λ q. record q { left = steps_for q.steps q.ever_working q.phase a }) (frame_of S.cpus f).device.id.0 x n
]) stops
stops_by plan d S fit s minds stops = all_stay plan S.cpus (do_deed plan d S).cpus S.pnp (do_deed plan d S).pnp (frames_by plan d S s).0 (λ f there is n. subst (λ Q. IsNext Q (frame_of S.cpus f).device.id.0) (sym (pnp_stays plan d S refl)) n) stops

-- ---- deeds of which nothing is asked

abbrev is_minded : Deed → Bool
is_minded (PushFrame cpu f frame level) = true
is_minded (TakeStep d) = true
is_minded (EndStep d s v) = true
is_minded _ = false

plain_minds : {A : Type 0} (plan : Plan) (d : Deed) (S : State A) → is_minded d ≡ false → Minds plan d S
plain_minds plan (PushFrame cpu f frame level) S h = absurd (let z : ⊥ = cc in z)
plain_minds plan (TakeStep d) S h = absurd (let z : ⊥ = cc in z)
plain_minds plan (EndStep d s v) S h = absurd (let z : ⊥ = cc in z)
plain_minds plan _ S h = tt

all_plain : {A : Type 0} (plan : Plan) (ds : List Deed) (S : State A) → list_all (λ d. not (is_minded d)) ds ≡ true → AllMind plan ds S
all_plain {A} plan ds S h = all_such plan (λ (d : Deed) (U : State A). Minds plan d U) (λ d. not (is_minded d)) (λ d U k. plain_minds plan d U (not_true (is_minded d) k)) ds S h

unminded : (e : Event) → is_start e ≡ false → starts_step e ≡ false → is_stage e ≡ false → ends_step e ≡ false → (d : Deed) → may_do e d ≡ true → not (is_minded d) ≡ true
unminded e s t g n (PushFrame cpu f frame level) h = absurd (let z : ⊥ = cc in z)
unminded e s t g n (TakeStep d) h = absurd (let z : ⊥ = cc in z)
unminded e s t g n (EndStep d x v) h = absurd (let z : ⊥ = cc in z)
unminded e s t g n _ h = refl

-- ---- what holds of stops

pub record FreeStops {A : Type 0} (plan : Plan) (S : State A) : Type 0 where
  pub ways : Ways S.pnp
  pub kin : Kin plan S.tree
  pub stops : StopFrames plan S.cpus S.pnp

-- the device on whose way `settled` is next has no callback of a step
no_step_runs : {A : Type 0} (plan : Plan) (S : State A) → FreeStops plan S → (d : ℕ) → IsNext S.pnp d → is_running_step S.pnp d ≡ true → ⊥
no_step_runs plan S k d n runs =
    let w : OnWay (sequence_of S.pnp d) = k.ways d in
    let down : w.way.down ≡ true = both_left w.way.down (along.fits (drop 1 (steps_left S.pnp d)) (passes stage.Settled w.way)) (subst (λ ss. along.fits ss w.way ≡ true) n.1 w.fits) in
    let off : w.way.down ≡ false = w.idle runs in
    let z : ⊥ = cc in z

module _ {A : Type 0} (plan : Plan) (m : Meaning A) (S : State A) (resolved : IsResolved plan) (free : FreeState plan S) (k : FreeStops plan S) where
  -- ---- a stage

  -- `settled` isn't passed while such a frame is there
  not_passed : (n : Handle) (s : Stage) (j : Option Handle) → may_pass plan S n.id.0 s j ≡ true → (f : ℕ) → 1 ≤ on S.cpus f → same_callback (frame_of S.cpus f).callback callback.EvtIoStop ≡ true → (frame_of S.cpus f).device.id.0 ≡ n.id.0 → ⊥
  not_passed n s j may_come f there is at =
      let d : ℕ = (frame_of S.cpus f).device.id.0 in
      let a : StopsAt plan S.pnp (frame_of S.cpus f) = k.stops f there is in
      let now : same_option same_step (next_step S.pnp n.id.0) (Some (step.Pass s j)) ≡ true = both_left (same_option same_step (next_step S.pnp n.id.0) (Some (step.Pass s j))) (not (is_running_step S.pnp n.id.0)) (both_left (same_option same_step (next_step S.pnp n.id.0) (Some (step.Pass s j)) && not (is_running_step S.pnp n.id.0)) _ (both_left (step_ready S n.id.0 (step.Pass s j)) (stage_ready plan S n.id.0 s j) may_come)) in
      let here : steps_left S.pnp d ≡ step.Pass s j ∷ drop 1 (steps_left S.pnp d) = subst (λ y. steps_left S.pnp y ≡ step.Pass s j ∷ drop 1 (steps_left S.pnp y)) (sym at) (found_pass (steps_left S.pnp n.id.0) s j now) in
      let settled : s ≡ stage.Settled = same_stage_of s j a.next.0 (drop 1 (steps_left S.pnp d)) (drop 1 (steps_left S.pnp d)) (sym here ∙ a.next.1) in
      let passes_ : may_pass plan S d stage.Settled j ≡ true = subst (λ y. may_pass plan S y stage.Settled j ≡ true) (sym at) (subst (λ y. may_pass plan S n.id.0 y j ≡ true) settled may_come) in
      let settles : is_settled plan S d ≡ true = both_right (step_ready S d (step.Pass stage.Settled j)) (stage_ready plan S d stage.Settled j) passes_ in
      let nobody : list_all (nobody_on S.cpus) (managed_queues plan d) ≡ true = both_right (length (unsettled S.power d) == 0) (list_all (nobody_on S.cpus) (managed_queues plan d)) settles in
      off_it S.cpus (frame_of S.cpus f).object.id.0 f (of_each plan d (frame_of S.cpus f).object.id.0 (nobody_on S.cpus) a.managed nobody) there refl

  effect_minds : (U : State A) (d : ℕ) (s : Stage) (j : Option Handle) → AllMind plan (stage_effect plan d s j) U
  effect_minds U d stage.Enabled j = (tt, tt)
  effect_minds U d stage.Disabled j = (tt, tt)
  effect_minds U d stage.QueuesDown j = (tt, tt)
  effect_minds U d stage.Closed j = (tt, tt)
  effect_minds U d stage.Removed j = (tt, tt)
  effect_minds U d _ j = tt

  stage_minds : (n : Handle) (s : Stage) (j : Option Handle) → may plan m S (event.Stage n s j) ≡ true → AllMind plan (deeds plan S (event.Stage n s j)) S
  stage_minds n s j h = (not_passed n s j (both_right (is_proper plan S n) (may_pass plan S n.id.0 s j) h), (tt, effect_minds _ n.id.0 s j))

  -- ---- an end

  -- a step that ends runs
  ended_minds : (cpu : ℕ) (c : Callback) (o : Handle) (v : Value) → IsEnd plan S cpu c o v → is_sequence (row_of c).rank ≡ true → IsNext S.pnp (nearest_device S.tree o.id.0) → ⊥
  ended_minds cpu c o v d is n =
      let g : ℕ = d.frame in
      let there : 1 ≤ on S.cpus g = top_on S.cpus cpu g d.about.top in
      let at : (frame_of S.cpus g).device.id.0 ≡ nearest_device S.tree o.id.0 = free.steps.framed.known g there ∙ ap (λ (y : Handle). nearest_device S.tree y.id.0) (sym d.object) in
      let it : is_step_frame (nearest_device S.tree o.id.0) (frame_of S.cpus g) ≡ true = both (is_sequence (row_of (frame_of S.cpus g).callback).rank) ((frame_of S.cpus g).device.id.0 == nearest_device S.tree o.id.0) (ap (λ y. is_sequence (row_of y).rank) (sym d.callback) ∙ is) (equal (frame_of S.cpus g).device.id.0 (nearest_device S.tree o.id.0) at) in
      let some_ = seen (λ f. is_step_frame (nearest_device S.tree o.id.0) (frame_of S.cpus f)) g (all_frames S.cpus) there it in
      let count = free.steps.stepping.steps (nearest_device S.tree o.id.0) in
      no_step_runs plan S k (nearest_device S.tree o.id.0) n (flagged (is_running_step S.pnp (nearest_device S.tree o.id.0)) (omega arith))

  end_minds : (cpu : Cpu) (c : Callback) (o : Handle) (v : Value) → IsEnd plan S cpu.0 c o v → AllMind plan (deeds plan S (event.End cpu c o v)) S
  end_minds cpu c o v d = by (lock_of_callback plan c o.id.0 (declared_in plan S o.id.0)) (row_of c).rank refl
    where
      by : (l : Option LockRef) (r : Rank) → (row_of c).rank ≡ r → AllMind plan (release_if_any l ++ PopFrame (cpu_of cpu.0) ∷ end_of_step plan S r c o.id.0 v) S
      by None rank.Sequence e = (tt, ((λ n. ended_minds cpu.0 c o v d (ap is_sequence e) n), tt))
      by (Some l) rank.Sequence e = (tt, (tt, ((λ n. ended_minds cpu.0 c o v d (ap is_sequence e) n), tt)))
      by None _ e = (tt, tt)
      by (Some l) _ e = (tt, (tt, tt))

  -- ---- a start

  -- a step that begins is the next one
  begun_minds : (c : Callback) (o : ℕ) → step_ready S (nearest_device S.tree o) (step_of plan S c o) ≡ true → Minds plan (TakeStep (object_id (nearest_device S.tree o))) S
  begun_minds c o ready f there is at =
      let n : ℕ = nearest_device S.tree o in
      let x : Step = step_of plan S c o in
      let a : StopsAt plan S.pnp (frame_of S.cpus f) = k.stops f there is in
      let now : same_option same_step (next_step S.pnp n) (Some x) ≡ true = both_left (same_option same_step (next_step S.pnp n) (Some x)) (not (is_running_step S.pnp n)) (both_left (same_option same_step (next_step S.pnp n) (Some x) && not (is_running_step S.pnp n)) _ ready) in
      let j : Option Handle = interrupt_of_step plan S o in
      let here : steps_left S.pnp n ≡ step.Run c j ∷ drop 1 (steps_left S.pnp n) = found_run (steps_left S.pnp n) c j now in
      let next_ : IsNext S.pnp n = subst (IsNext S.pnp) at a.next in
      unlike c j next_.0 (drop 1 (steps_left S.pnp n)) (drop 1 (steps_left S.pnp n)) (sym here ∙ next_.1)

  start_minds : (cpu : ℕ) (c : Callback) (o : ℕ) (r : Option Handle) → is_ready_for plan m S cpu c o r ≡ true → AllMind plan (start_effect plan S cpu c o r) S
  start_minds cpu c o None h = by (row_of c).rank h
    where
      by : (x : Rank) → rank_ready plan m S x cpu c o ≡ true → AllMind plan (effect plan S x cpu c o) S
      by rank.Sequence h = (begun_minds c o h, tt)
      by rank.Deferred h = (tt, tt)
      by rank.Timed h = (tt, tt)
      by rank.QueueState h = (tt, tt)
      by rank.Work h = (tt, tt)
      by rank.Cleanup h = (tt, tt)
      by rank.Destroy h = (tt, tt)
      by _ h = tt
  start_minds cpu c o (Some r) h = by (row_of c).rank
    where
      by : (x : Rank) → AllMind plan (effect_for x o r.id.0) S
      by rank.Completion = (tt, tt)
      by rank.Cancel = (tt, tt)
      by rank.CanceledOnQueue = (tt, tt)
      by rank.Stop = (tt, tt)
      by rank.Resume = (tt, tt)
      by rank.Handler = (tt, tt)
      by _ = tt

  stop_pnp : (cpu : ℕ) (c : Callback) (o : ℕ) (r : Option Handle) → c ≡ callback.EvtIoStop → (do_deeds plan (start_effect plan S cpu c o r) S).pnp ≡ S.pnp
  stop_pnp cpu c o r e = subst (λ x. (do_deeds plan (start_effect plan S cpu x o r) S).pnp ≡ S.pnp) (sym e) (by r)
    where
      by : (r : Option Handle) → (do_deeds plan (start_effect plan S cpu callback.EvtIoStop o r) S).pnp ≡ S.pnp
      by None = refl
      by (Some r) = refl

  -- EvtIoStop begins on a power-managed queue of its device, with `settled` as the next step
  stop_begins : (cpu : ℕ) (o : Handle) (r : Option Handle) → may_start plan m S cpu callback.EvtIoStop o.id.0 r ≡ true → is_ready_for plan m S cpu callback.EvtIoStop o.id.0 r ≡ true → StopsAt plan S.pnp (new_frame plan S callback.EvtIoStop o r)
  stop_begins cpu o None start ready = absurd (let z : ⊥ = cc in z)
  stop_begins cpu o (Some r) start due =
      let n : ℕ = nearest_device S.tree o.id.0 in
      let x : Bool = is_managed plan o.id.0 && is_held_from S o.id.0 r.id.0 && not (stop_was_asked S.power r.id.0) in
      let found : same_option same_step (next_step S.pnp n) (Some (step.Pass stage.Settled None)) ≡ true = both_right x (same_option same_step (next_step S.pnp n) (Some (step.Pass stage.Settled None))) due in
      let managed : is_managed plan o.id.0 ≡ true = both_left (is_managed plan o.id.0) (is_held_from S o.id.0 r.id.0) (both_left (is_managed plan o.id.0 && is_held_from S o.id.0 r.id.0) (not (stop_was_asked S.power r.id.0)) (both_left x _ due)) in
      let of : is_managed_of (device_of_queue plan o.id.0) (queue_of plan o.id.0) ≡ true = of_device plan (device_of_queue plan o.id.0) o.id.0 managed refl in
      let q = queue_at (declared_of plan o.id.0) (device_of_queue plan o.id.0) of in
      let live : is_live (life_of S.tree o.id.0) ≡ true = (start_parts plan m S cpu callback.EvtIoStop o.id.0 (Some r) start).1 in
      let at : n ≡ device_of_queue plan o.id.0 = near plan S o.id.0 q.0 resolved free.declared k.kin q.1 (live_there (life_of S.tree o.id.0) live) ∙ q.2 in
      record {
        managed = subst (λ y. is_managed_of y (queue_of plan o.id.0) ≡ true) (sym at) of;
        next = (None, found_pass (steps_left S.pnp n) stage.Settled None found);
      }

  pushed_minds : (cpu : Cpu) (c : Callback) (o : Handle) (r : Option Handle) → may plan m S (event.Start cpu c o r) ≡ true → Minds plan (PushFrame (cpu_of cpu.0) (frame_id (next_number S)) (new_frame plan S c o r) (irql_of (callback_irql plan c o.id.0))) (do_deeds plan (start_effect plan S cpu.0 c o.id.0 r) S)
  pushed_minds cpu c o r h is =
      let e : c ≡ callback.EvtIoStop = (callback_decides c callback.EvtIoStop).0 is in
      let start : may_start plan m S cpu.0 c o.id.0 r ≡ true = both_right (is_cpu plan cpu && is_proper plan S o && is_proper_if_any plan S r) (may_start plan m S cpu.0 c o.id.0 r) h in
      let ready : is_ready_for plan m S cpu.0 c o.id.0 r ≡ true = started plan m S cpu c o r h in
      subst (λ Q. StopsAt plan Q (new_frame plan S c o r)) (sym (stop_pnp cpu.0 c o.id.0 r e))
      (subst (λ x. StopsAt plan S.pnp (new_frame plan S x o r)) (sym e) (stop_begins cpu.0 o r (subst (λ x. may_start plan m S cpu.0 x o.id.0 r ≡ true) e start) (subst (λ x. is_ready_for plan m S cpu.0 x o.id.0 r ≡ true) e ready)))

  take_minds : (U : State A) (f : ℕ) (l : Option LockRef) → AllMind plan (take_if_any f l) U
  take_minds U f None = tt
  take_minds U f (Some l) = (tt, tt)

  -- ---- all events

  pub event_minds : (e : Event) → may plan m S e ≡ true → AllMind plan (deeds plan S e) S
  event_minds (event.Start cpu c o r) h =
      all_behind plan (λ (d : Deed) (U : State A). Minds plan d U) (start_effect plan S cpu.0 c o.id.0 r) (PushFrame (cpu_of cpu.0) (frame_id (next_number S)) (new_frame plan S c o r) (irql_of (callback_irql plan c o.id.0)) ∷ take_if_any (next_number S) (lock_of_callback plan c o.id.0 (declared_in plan S o.id.0))) S
      (start_minds cpu.0 c o.id.0 r (started plan m S cpu c o r h)) (pushed_minds cpu c o r h, take_minds _ (next_number S) (lock_of_callback plan c o.id.0 (declared_in plan S o.id.0)))
  event_minds (event.End cpu c o v) h = end_minds cpu c o v (end_tells plan m S cpu c o v h)
  event_minds (event.Stage n s j) h = stage_minds n s j h
  event_minds e h = all_plain plan (deeds plan S e) S (event_passes (λ d. not (is_minded d)) plan S e (unminded e refl refl refl refl))

-- ---- deeds, events, a tick, the opening

all_stops : {A : Type 0} (plan : Plan) (ds : List Deed) (S : State A) → all_fit plan ds S ≡ true → AllSound plan ds S → AllMind plan ds S → FreeStops plan S → FreeStops plan (do_deeds plan ds S)
all_stops plan [] S f s m k = k
all_stops plan (d ∷ ds) S f s m k =
    let fit : fits plan d S ≡ true = both_left (fits plan d S) (all_fit plan ds (do_deed plan d S)) f in
    all_stops plan ds (do_deed plan d S) (both_right (fits plan d S) (all_fit plan ds (do_deed plan d S)) f) s.1 m.1
    (record { ways = ways_by plan d S fit k.ways; kin = kin_by plan d S fit k.kin; stops = stops_by plan d S fit s.0 m.0 k.stops })

pub event_stops : {A : Type 0} (plan : Plan) (m : Meaning A) (S : State A) (e : Event) → IsResolved plan → may plan m S e ≡ true → FreeState plan S → FreeStops plan S → FreeStops plan (after plan m S e)
event_stops {A} plan m S e resolved h free k =
    let U : State A = do_deeds plan (deeds plan S e) S in
    let n : FreeStops plan U = all_stops plan (deeds plan S e) S (event_fits plan m S e h) (all_sound plan m S e (known_all plan S free) h) (event_minds plan m S resolved free k e h) k in
    record { ways = n.ways; kin = n.kin; stops = n.stops }

pub tick_stops : {A : Type 0} (plan : Plan) (m : Meaning A) (S : State A) (time : ℕ) → FreeStops plan S → FreeStops plan (after plan m S (event.Tick time))
tick_stops plan m S time k = record { ways = k.ways; kin = k.kin; stops = k.stops }

pub opening_stops : {A : Type 0} (plan : Plan) (m : Meaning A) → IsResolved plan → FreeState plan (opening plan m) → FreeStops plan (opening plan m)
opening_stops plan m resolved free = record {
  ways = ways_open plan;
  kin = kin_opens plan m resolved free.family;
  stops = λ f more is. absurd (let e = none_yet plan (λ x. x == f) in omega arith);
}
