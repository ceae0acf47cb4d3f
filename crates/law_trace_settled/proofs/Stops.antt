-- While a frame of EvtIoStop is there, the next step of its device is `settled`.
use Rattle.std.proofs.Common.{◌≡◌, ◌≢◌, ℕ, ◌==◌, ◌≤◌, Bool, true, false, not, ◌&&◌, List, [], ◌∷◌, inl, inr, Option, Some, None, is_some, drop, length, refl, sym, ap, subst, ◌∙◌}
use Rattle.std.specs.List.{list_all}
use Rattle.wdf_base.specs.Meaning.{Meaning}
use Rattle.wdf_base.specs.Resolved.{IsResolved}
use Rattle.wdf_base.specs.declared.ids.Cpu.{Cpu}
use Rattle.wdf_base.specs.declared.ids.Handle.{Handle}
use Rattle.wdf_base.specs.declared.plan.Plan.{Plan}
use Rattle.wdf_base.specs.declared.call.Callback.{Callback}
use Rattle.wdf_base.specs.declared.call.Callback.TheVariants as callback
use Rattle.wdf_base.specs.declared.event.Event.{Event}
use Rattle.wdf_base.specs.declared.event.Event.TheVariants as event
use Rattle.wdf_base.specs.declared.event.Stage.{Stage}
use Rattle.wdf_base.specs.declared.event.Stage.TheVariants as stage
use Rattle.wdf_base.specs.declared.event.Step.{Step}
use Rattle.wdf_base.specs.declared.event.Step.TheVariants as step
use Rattle.wdf_base.specs.declared.frame.Frame.{Frame}
use Rattle.wdf_base.specs.Same.{same_callback, same_option, same_step}
use Rattle.wdf_base.specs.Lives.{is_live}
use Rattle.wdf_model.specs.declared.entries.DevicePower.{DevicePower}
use Rattle.wdf_model.specs.Plans.{callback_irql, device_of_queue, is_managed, managed_queues, queue_of}
use Rattle.wdf_model.specs.parts.Tree.{life_of, nearest_device}
use Rattle.wdf_model.specs.parts.Cpus.{Cpus, frame_of, nobody_on}
use Rattle.wdf_model.specs.parts.Locks.{is_free_if_any, lock_of_callback}
use Rattle.wdf_model.specs.parts.Power.{stop_was_asked, unsettled}
use Rattle.wdf_model.specs.parts.Pnp.{Pnp, Sequence, is_running_step, left_after, next_step, no_sequence, sequence_of, steps_for, steps_left, taken_step}
use Rattle.wdf_model.specs.parts.Pnp as pnp
use Rattle.wdf_model.specs.State.{State, declared_in, declares_in, is_held_from, is_proper}
use Rattle.wdf_model.specs.rules.Starts.{is_ready_for, is_settled, level_fits, life_fits, may_pass, may_start, stage_ready, step_ready, stop_is_due}
use Rattle.wdf_model.specs.rules.Steps.{is_cpu, is_proper_if_any, may}
use Rattle.law_machine_base.specs.OverRuns.{DeclaredAgree}
use Rattle.wdf_model.proofs.Maps.{entry_put_other}
use Rattle.wdf_model.proofs.Sames.{callback_decides}
use Rattle.wdf_model.proofs.Tests.{both_left, both_right, either_false}
use Rattle.wdf_model.proofs.Counts.{one_or_two}
use Rattle.law_machine_lives.proofs.Framing.{off_it}
use Rattle.law_machine_lives.proofs.LivesOver.{Lives}
use Rattle.law_trace_families.proofs.Families.{Family}
use Rattle.wdf_laws.specs.Laws.{is_managed_of}
use Rattle.law_trace_power.proofs.Happens.{found_pass}
use Rattle.law_trace_requests.proofs.CancelsOverRuns.{started}
use Rattle.law_trace_settled.proofs.Along.{fits, passes}
use Rattle.law_trace_settled.proofs.Course.{Course}
use Rattle.law_trace_settled.proofs.Moves.{Asked, Begun, Change, Ended, IsNew, Moved, Passed, Unmoved}
use Rattle.law_trace_settled.proofs.Near.{near_queue}
use Rattle.law_trace_settled.proofs.Never.{no_stage, not_empty, not_so, not_such}
use Rattle.law_trace_settled.proofs.Queues.{of_device, of_each}
use Rattle.wdf_model.proofs.FrameCounts.{on}
use Rattle.law_machine_lives.proofs.Lists.{none_left}

-- the next step of a device is `settled`
abbrev pub IsNext : Pnp → ℕ → Type 0
IsNext Q d = (j : Option Handle) × (steps_left Q d ≡ step.Pass stage.Settled j ∷ drop 1 (steps_left Q d))

-- so it is for a frame of EvtIoStop, which is on a power-managed queue of its device
pub record StopsAt (plan : Plan) (Q : Pnp) (a : Frame) : Type 0 where
  pub managed : is_managed_of a.device.id.0 (queue_of plan a.object.id.0) ≡ true
  pub next : IsNext Q a.device.id.0

abbrev pub StopFrames : Plan → Cpus → Pnp → Type 0
StopFrames plan C Q = (f : ℕ) → 1 ≤ on C f → same_callback (frame_of C f).callback callback.EvtIoStop ≡ true → StopsAt plan Q (frame_of C f)

-- ---- the next step stays

pub unlike : (c : Callback) (j l : Option Handle) (ss ts : List Step) → step.Run c j ∷ ss ≡ step.Pass stage.Settled l ∷ ts → ⊥
unlike c j l ss ts h = cc

next_by : (Q R : Pnp) (d : ℕ) → steps_left R d ≡ steps_left Q d → IsNext Q d → IsNext R d
next_by Q R d same n = (n.0, subst (λ ss. ss ≡ step.Pass stage.Settled n.0 ∷ drop 1 ss) (sym same) n.1)

pub is_down : (plan : Plan) (Q : Pnp) (D : List DevicePower) (es : List Event) (d : ℕ) (k : Course plan Q D es) → IsNext Q d → (k d).way.down ≡ true
is_down plan Q D es d k n = both_left (k d).way.down (fits (drop 1 (steps_left Q d)) (passes stage.Settled (k d).way)) (subst (λ ss. fits ss (k d).way ≡ true) n.1 (k d).fits)

module _ {A : Type 0} (plan : Plan) (S U : State A) (es : List Event) (e : Event) (k : Course plan S.pnp S.power.devices es) (d : ℕ) (now : IsNext S.pnp d) where
  elsewhere : (n : ℕ) (f : Sequence → Sequence) → d ≢ n → U.pnp ≡ pnp.with_sequence S.pnp n f → IsNext U.pnp d
  elsewhere n f x same = next_by S.pnp U.pnp d (ap (λ Q. steps_left Q d) same ∙ ap (λ (q : Sequence). q.left) (entry_put_other no_sequence S.pnp.devices n d (f (sequence_of S.pnp n)) x)) now

  pub still_next : ((n : Handle) (s : Stage) (j : Option Handle) → e ≡ event.Stage n s j → may_pass plan S n.id.0 s j ≡ true → steps_left S.pnp n.id.0 ≡ step.Pass s j ∷ drop 1 (steps_left S.pnp n.id.0) → d ≡ n.id.0 → ⊥) → Moved plan S U e → IsNext U.pnp d
  still_next never (Unmoved quiet_ same devices) = next_by S.pnp U.pnp d (ap (λ Q. steps_left Q d) same) now
  still_next never (Begun n c j quiet_ idle next_ same devices) = elim (one_or_two d n) [
    | inr x ↦ elsewhere n taken_step x same
    | inl x ↦ absurd (
        let runs : steps_left S.pnp d ≡ step.Run c j ∷ drop 1 (steps_left S.pnp d) = subst (λ y. steps_left S.pnp y ≡ step.Run c j ∷ drop 1 (steps_left S.pnp y)) (sym x) next_ in
        unlike c j now.0 (drop 1 (steps_left S.pnp d)) (drop 1 (steps_left S.pnp d)) (sym runs ∙ now.1))
  ]
  still_next never (Ended n c j l v quiet_ runs same devices) = elim (one_or_two d n) [
    | inr x ↦ elsewhere n (λ q. record q { left = left_after q (step.Run c l) v; running = None }) x same
    | inl x ↦ absurd (
        let off : (k d).way.down ≡ false = (k d).idle (subst (λ y. is_running_step S.pnp y ≡ true) (sym x) (ap is_some runs)) in
        not_such (sym (is_down plan S.pnp S.power.devices es d k now) ∙ off))
  ]
  still_next never (Asked n a quiet_ free same devices) = elim (one_or_two d n) [
    | inr x ↦ elsewhere n (λ q. record q { left = steps_for q.steps q.ever_working q.phase a }) x same
    | inl x ↦ absurd (
        let empty : steps_left S.pnp d ≡ [] = ap (λ y. steps_left S.pnp y) x ∙ (none_left (steps_left S.pnp n) (either_false (is_running_step S.pnp n) (not (length (steps_left S.pnp n) == 0)) free).1) in
        not_empty (step.Pass stage.Settled now.0) (drop 1 (steps_left S.pnp d)) (sym empty ∙ now.1))
  ]
  still_next never (Passed n s j is may_come idle next_ same devices) = elim (one_or_two d n.id.0) [
    | inr x ↦ elsewhere n.id.0 taken_step x same
    | inl x ↦ absurd (never n s j is may_come next_ x)
  ]

-- ---- frames

-- what is declared, and lives, where a callback begins
pub start_parts : {A : Type 0} (plan : Plan) (m : Meaning A) (S : State A) (cpu : ℕ) (c : Callback) (o : ℕ) (r : Option Handle) → may_start plan m S cpu c o r ≡ true → (declares_in plan S c o ≡ true) × (life_fits S c o ≡ true)
start_parts plan m S cpu c o r h =
    let a : Bool = declares_in plan S c o && life_fits S c o in
    let b : Bool = level_fits S cpu (callback_irql plan c o) in
    let l : Bool = is_free_if_any S.locks (lock_of_callback plan c o (declared_in plan S o)) in
    let t : a ≡ true = both_left a b (both_left (a && b) l (both_left (a && b && l) (is_ready_for plan m S cpu c o r) h)) in
    (both_left (declares_in plan S c o) (life_fits S c o) t, both_right (declares_in plan S c o) (life_fits S c o) t)

pub same_stage_of : (s : Stage) (j l : Option Handle) (ss ts : List Step) → step.Pass s j ∷ ss ≡ step.Pass stage.Settled l ∷ ts → s ≡ stage.Settled
same_stage_of s j l ss ts h = let z : s ≡ stage.Settled = cc in z

module _ {A : Type 0} (plan : Plan) (m : Meaning A) (S U : State A) (es : List Event) (e : Event) (resolved : IsResolved plan) (agree : DeclaredAgree plan S) (lives : Lives S.tree) (family : Family plan es S.tree)
    (h : may plan m S e ≡ true) (change : Change plan S U e) (k : Course plan S.pnp S.power.devices es) (stops : StopFrames plan S.cpus S.pnp) where
  -- `settled` isn't passed while such a frame is there
  not_settled : (f : ℕ) → 1 ≤ on S.cpus f → (a : StopsAt plan S.pnp (frame_of S.cpus f)) → (n : Handle) (s : Stage) (j : Option Handle) → may_pass plan S n.id.0 s j ≡ true
      → steps_left S.pnp n.id.0 ≡ step.Pass s j ∷ drop 1 (steps_left S.pnp n.id.0) → (frame_of S.cpus f).device.id.0 ≡ n.id.0 → ⊥
  not_settled f there a n s j may_come next_ x =
      let d : ℕ = (frame_of S.cpus f).device.id.0 in
      let here : steps_left S.pnp d ≡ step.Pass s j ∷ drop 1 (steps_left S.pnp d) = subst (λ y. steps_left S.pnp y ≡ step.Pass s j ∷ drop 1 (steps_left S.pnp y)) (sym x) next_ in
      let is : s ≡ stage.Settled = same_stage_of s j a.next.0 (drop 1 (steps_left S.pnp d)) (drop 1 (steps_left S.pnp d)) (sym here ∙ a.next.1) in
      let passes_ : may_pass plan S d stage.Settled j ≡ true = subst (λ y. may_pass plan S y stage.Settled j ≡ true) (sym x) (subst (λ y. may_pass plan S n.id.0 y j ≡ true) is may_come) in
      let settled_ : is_settled plan S d ≡ true = both_right (step_ready S d (step.Pass stage.Settled j)) (stage_ready plan S d stage.Settled j) passes_ in
      let nobody : list_all (nobody_on S.cpus) (managed_queues plan d) ≡ true = both_right (length (unsettled S.power d) == 0) (list_all (nobody_on S.cpus) (managed_queues plan d)) settled_ in
      off_it S.cpus (frame_of S.cpus f).object.id.0 f (of_each plan d (frame_of S.cpus f).object.id.0 (nobody_on S.cpus) a.managed nobody) there refl

  old_frame : (f : ℕ) → 1 ≤ on S.cpus f → (b : Frame) → b.callback ≡ (frame_of S.cpus f).callback → b.object ≡ (frame_of S.cpus f).object → b.device ≡ (frame_of S.cpus f).device → same_callback b.callback callback.EvtIoStop ≡ true → StopsAt plan U.pnp b
  old_frame f there b calls object device is =
      let a : StopsAt plan S.pnp (frame_of S.cpus f) = stops f there (ap (λ c. same_callback c callback.EvtIoStop) (sym calls) ∙ is) in
      let after_ : IsNext U.pnp (frame_of S.cpus f).device.id.0 = still_next plan S U es e k (frame_of S.cpus f).device.id.0 a.next (λ n s j at may_come next_ x. not_settled f there a n s j may_come next_ x) change.moved in
      record {
        managed = ap (λ (y : Handle). is_managed_of y.id.0 (queue_of plan b.object.id.0)) device ∙ ap (λ (y : Handle). is_managed_of (frame_of S.cpus f).device.id.0 (queue_of plan y.id.0)) object ∙ a.managed;
        next = subst (λ (y : Handle). IsNext U.pnp y.id.0) (sym device) after_;
      }

  stop_begins : (cpu : Cpu) (o : Handle) (r : Option Handle) → may plan m S (event.Start cpu callback.EvtIoStop o r) ≡ true → (is_managed plan o.id.0 ≡ true) × IsNext S.pnp (nearest_device S.tree o.id.0)
  stop_begins cpu o None may_come = absurd (not_so (started plan m S cpu callback.EvtIoStop o None may_come))
  stop_begins cpu o (Some r) may_come =
      let due : stop_is_due plan S o.id.0 r.id.0 ≡ true = started plan m S cpu callback.EvtIoStop o (Some r) may_come in
      let found : same_option same_step (next_step S.pnp (nearest_device S.tree o.id.0)) (Some (step.Pass stage.Settled None)) ≡ true
      = both_right (is_managed plan o.id.0 && is_held_from S o.id.0 r.id.0 && not (stop_was_asked S.power r.id.0)) (same_option same_step (next_step S.pnp (nearest_device S.tree o.id.0)) (Some (step.Pass stage.Settled None))) due in (
        both_left (is_managed plan o.id.0) (is_held_from S o.id.0 r.id.0) (both_left (is_managed plan o.id.0 && is_held_from S o.id.0 r.id.0) (not (stop_was_asked S.power r.id.0)) (both_left (is_managed plan o.id.0 && is_held_from S o.id.0 r.id.0 && not (stop_was_asked S.power r.id.0)) _ due)),
        (None, found_pass (steps_left S.pnp (nearest_device S.tree o.id.0)) stage.Settled None found),
      )

  live_at : (cpu : Cpu) (o : Handle) (r : Option Handle) → may plan m S (event.Start cpu callback.EvtIoStop o r) ≡ true → is_live (life_of S.tree o.id.0) ≡ true
  live_at cpu o r may_come =
      let start : may_start plan m S cpu.0 callback.EvtIoStop o.id.0 r ≡ true = both_right (is_cpu plan cpu && is_proper plan S o && is_proper_if_any plan S r) (may_start plan m S cpu.0 callback.EvtIoStop o.id.0 r) may_come in
      (start_parts plan m S cpu.0 callback.EvtIoStop o.id.0 r start).1

  new_frame_stops : (b : Frame) → IsNew plan S e b → same_callback b.callback callback.EvtIoStop ≡ true → StopsAt plan U.pnp b
  new_frame_stops b new is =
      let o : Handle = new.object in
      let calls : new.callback ≡ callback.EvtIoStop = sym new.kept.callback ∙ (callback_decides b.callback callback.EvtIoStop).0 is in
      let begins : e ≡ event.Start new.cpu callback.EvtIoStop o new.request = new.event ∙ ap (λ c. event.Start new.cpu c o new.request) calls in
      let may_come : may plan m S (event.Start new.cpu callback.EvtIoStop o new.request) ≡ true = subst (λ x. may plan m S x ≡ true) begins h in
      let found = stop_begins new.cpu o new.request may_come in
      let n : ℕ = nearest_device S.tree o.id.0 in
      let near : n ≡ device_of_queue plan o.id.0 = near_queue plan es S o.id.0 (device_of_queue plan o.id.0) resolved agree lives family (of_device plan (device_of_queue plan o.id.0) o.id.0 found.0 refl) (live_at new.cpu o new.request may_come) in
      let after_ : IsNext U.pnp n = still_next plan S U es e k n found.1 (λ y s j at may_pass_ next_ x. absurd (no_stage new.cpu callback.EvtIoStop o new.request y s j (sym begins ∙ at))) change.moved in
      record {
        managed = ap (λ (y : Handle). is_managed_of y.id.0 (queue_of plan b.object.id.0)) new.kept.device ∙ ap (λ (y : Handle). is_managed_of n (queue_of plan y.id.0)) new.kept.object ∙ of_device plan n o.id.0 found.0 (sym near);
        next = subst (λ (y : Handle). IsNext U.pnp y.id.0) (sym new.kept.device) after_;
      }

  pub stops_after : StopFrames plan U.cpus U.pnp
  stops_after f there is = elim (change.frames f there) [
    | inl old ↦ old_frame f old.0 (frame_of U.cpus f) old.1.callback old.1.object old.1.device is
    | inr new ↦ new_frame_stops (frame_of U.cpus f) new is
  ]
