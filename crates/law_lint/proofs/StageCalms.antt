-- While EvtIoStop runs on a queue no stage of its device forgets what was asked and acknowledged.
use Rattle.std.proofs.Common.{◌≡◌, ℕ, ◌==◌, ◌≤◌, Bool, true, false, not, ◌&&◌, List, ◌∷◌, Option, Some, drop, option_map, refl, sym, ap, subst, ◌∙◌}
use Rattle.std.proofs.lemmas.Bool.{eqb-true}
use Rattle.wdf_base.specs.Meaning.{Meaning}
use Rattle.wdf_base.specs.Places.{is_owned}
use Rattle.wdf_base.specs.Same.{same_callback, same_option, same_step}
use Rattle.wdf_base.specs.declared.call.Callback.TheVariants as callback
use Rattle.wdf_base.specs.declared.event.Event.TheVariants as event
use Rattle.wdf_base.specs.declared.event.Stage.{Stage}
use Rattle.wdf_base.specs.declared.event.Stage.TheVariants as stage
use Rattle.wdf_base.specs.declared.event.Step.{Step}
use Rattle.wdf_base.specs.declared.event.Step.TheVariants as step
use Rattle.wdf_base.specs.declared.ids.Handle.{Handle}
use Rattle.wdf_base.specs.declared.ids.ObjectId.{ObjectId}
use Rattle.wdf_base.specs.declared.plan.Plan.{Plan}
use Rattle.wdf_model.specs.Plans.{device_of_queue, is_managed}
use Rattle.wdf_model.specs.declared.entries.Holding.{Holding}
use Rattle.wdf_model.specs.declared.entries.Request.{Request}
use Rattle.wdf_model.specs.parts.Cpus.{frame_of}
use Rattle.wdf_model.specs.parts.Pnp.{is_running_step, next_step, steps_left}
use Rattle.wdf_model.specs.parts.Power.{Power, advance_stage, holding_of, is_held, is_held_at, no_holding, queue_power, wake_holdings, with_up, woken}
use Rattle.wdf_model.specs.parts.Requests.{request_of}
use Rattle.wdf_model.specs.parts.Targets.{is_forgotten}
use Rattle.wdf_model.specs.State.{State, held_at, is_proper}
use Rattle.wdf_model.specs.rules.Deeds.{do_deeds}
use Rattle.wdf_model.specs.rules.Starts.{may_pass, stage_effect, stage_ready, step_ready}
use Rattle.wdf_model.specs.rules.Steps.{deeds, may}
use Rattle.wdf_model.proofs.FrameCounts.{on}
use Rattle.wdf_model.proofs.Maps.{entry_map}
use Rattle.wdf_model.proofs.Tests.{both_left, both_right}
use Rattle.law_machine_base.specs.Agreement.{managed_origin}
use Rattle.law_machine_base.proofs.FitsOfEvents.{event_fits}
use Rattle.law_machine_counts.proofs.Holding.{held_by, holder}
use Rattle.law_trace_power.proofs.Happens.{found_pass}
use Rattle.law_trace_queues.proofs.Resuming.{device_noted}
use Rattle.law_trace_settled.proofs.Queues.{is_of}
use Rattle.law_trace_settled.proofs.Stops.{IsNext, StopsAt}
use Rattle.law_lint.proofs.Acting.{held_owned}
use Rattle.law_lint.proofs.Around.{Around}
use Rattle.law_lint.proofs.Calming.{calms_by}
use Rattle.law_lint.proofs.Flags.{FlagsKept, flags_by}
use Rattle.law_lint.proofs.Others.{Places}
use Rattle.law_lint.proofs.Owning.{Calms, Guarded, Stopping, has_origin}
use Rattle.law_lint.proofs.Resting.{AllCalm, apart_beside, deeds_flags}
use Rattle.law_lint.proofs.Stands.{Stands}

-- ---- a stage

woken_not : (P : Power) (d : ℕ) (h : Holding) → is_held_at P d h ≡ false → woken P d h ≡ h
woken_not P d h off = rw off refl

-- a request that isn't held from the device's queues keeps all of it
stage_flags : (P : Power) (d x : ℕ) (s : Stage) → (s ≡ stage.QueuesUp → is_held_at P d (holding_of P x) ≡ false) → FlagsKept true P (advance_stage P d s) x
stage_flags P d x stage.QueuesUp off = flags_by true P (wake_holdings (with_up P d true) d) x (entry_map no_holding P.holdings (woken (with_up P d true) d) x refl ∙ woken_not (with_up P d true) d (holding_of P x) (off refl))
stage_flags P d x stage.Hardware off = flags_by true P (advance_stage P d stage.Hardware) x refl
stage_flags P d x stage.NoHardware off = flags_by true P (advance_stage P d stage.NoHardware) x refl
stage_flags P d x stage.QueuesDown off = flags_by true P (advance_stage P d stage.QueuesDown) x refl
stage_flags P d x _ off = flags_by true P P x refl

effect_calm : {A : Type 0} (plan : Plan) (U : State A) (x d : ℕ) (s : Stage) (j : Option Handle) → AllCalm plan true (stage_effect plan d s j) U x
effect_calm plan U x d stage.Enabled j = (tt, tt)
effect_calm plan U x d stage.Disabled j = (tt, tt)
effect_calm plan U x d stage.QueuesDown j = (tt, tt)
effect_calm plan U x d stage.Closed j = (tt, tt)
effect_calm plan U x d stage.Removed j = (tt, tt)
effect_calm plan U x d _ j = tt

-- ---- the queue from which a request is held

owned_holder : (away : Bool) (q : Request) → is_owned q.place ≡ true → held_by away q ≡ option_map (λ (o : ObjectId). o.0) q.info.origin
owned_holder away q own = let e : held_at away q.place ≡ true = held_owned away q.place own in rw e refl

pass_same : (s t : Stage) (j l : Option Handle) (ss ts : List Step) → step.Pass s j ∷ ss ≡ step.Pass t l ∷ ts → s ≡ t
pass_same s t j l ss ts h = let z : s ≡ t = cc in z

up_next : stage.QueuesUp ≡ stage.Settled → ⊥
up_next e = let z : ⊥ = cc in z

module _ {A : Type 0} (plan : Plan) (m : Meaning A) (S : State A) (d : Handle) (s : Stage) (i : Option Handle) (h : may plan m S (event.Stage d s i) ≡ true) (k : Places S) (around : Around plan S) (st : Stands plan S) where
  -- it is the device's next step
  next_is : steps_left S.pnp d.id.0 ≡ step.Pass s i ∷ drop 1 (steps_left S.pnp d.id.0)
  next_is =
      let passes : may_pass plan S d.id.0 s i ≡ true = both_right (is_proper plan S d) (may_pass plan S d.id.0 s i) h in
      let ready : step_ready S d.id.0 (step.Pass s i) ≡ true = both_left (step_ready S d.id.0 (step.Pass s i)) (stage_ready plan S d.id.0 s i) passes in
      found_pass (steps_left S.pnp d.id.0) s i
      (both_left (same_option same_step (next_step S.pnp d.id.0) (Some (step.Pass s i))) (not (is_running_step S.pnp d.id.0)) (both_left (same_option same_step (next_step S.pnp d.id.0) (Some (step.Pass s i)) && not (is_running_step S.pnp d.id.0)) _ ready))

  -- `queues_up` isn't, where an EvtIoStop runs
  not_up : (g : ℕ) → 1 ≤ on S.cpus g → Guarded plan (frame_of S.cpus g).script → (w : Stopping S.requests S.power (frame_of S.cpus g) (st.states g).acknowledged) → s ≡ stage.QueuesUp → is_held_at S.power d.id.0 (holding_of S.power w.request.id.0) ≡ true → ⊥
  not_up g more guard w up held =
      let x : ℕ = w.request.id.0 in
      let o : ℕ = (frame_of S.cpus g).object.id.0 in
      let dd : ℕ = (frame_of S.cpus g).device.id.0 in
      let is : same_callback (frame_of S.cpus g).callback callback.EvtIoStop ≡ true = ap (λ c. same_callback c callback.EvtIoStop) w.calls in
      let a : StopsAt plan S.pnp (frame_of S.cpus g) = (around.stops guard.resolved).stops g more is in
      let of = is_of plan dd o a.managed in
      let from : holder S.requests S.targets x ≡ Some o = owned_holder (is_forgotten S.targets x) (request_of S.requests x) w.owned ∙ w.origin in
      let at : (holding_of S.power x).queue.0 ≡ o = around.holds.holdings x ∙ ap (managed_origin plan) from ∙ (managed_is o of.0) in
      let device : (queue_power S.power (holding_of S.power x).queue.0).device.0 ≡ d.id.0 = eqb-true (queue_power S.power (holding_of S.power x).queue.0).device.0 d.id.0 (both_right (is_held (holding_of S.power x)) ((queue_power S.power (holding_of S.power x).queue.0).device.0 == d.id.0) held) in
      let noted : (queue_power S.power o).device.0 ≡ device_of_queue plan o = device_noted plan S.power o around.queues in
      let same : dd ≡ d.id.0 = sym of.1 ∙ sym noted ∙ ap (λ q. (queue_power S.power q).device.0) (sym at) ∙ device in
      let next : IsNext S.pnp d.id.0 = subst (IsNext S.pnp) same a.next in
      up_next (sym up ∙ pass_same s stage.Settled i next.0 (drop 1 (steps_left S.pnp d.id.0)) (drop 1 (steps_left S.pnp d.id.0)) (sym next_is ∙ next.1))
    where
      managed_is : (o : ℕ) → is_managed plan o ≡ true → managed_origin plan (Some o) ≡ o
      managed_is o e = rw e refl

  pub stage_calms : (g : ℕ) → 1 ≤ on S.cpus g → Calms plan (frame_of S.cpus g) (st.states g) true S.power (do_deeds plan (deeds plan S (event.Stage d s i)) S).power
  stage_calms g more = calms_by plan S (do_deeds plan (deeds plan S (event.Stage d s i)) S).power g (st.states g) true (st.stands g more) (λ guard w old.
      deeds_flags plan true (deeds plan S (event.Stage d s i)) S w.request.id.0 (event_fits plan m S (event.Stage d s i) h) k old w.owned
      (has_origin (request_of S.requests w.request.id.0).info.origin (frame_of S.cpus g).object.id.0 w.origin)
      (apart_beside plan S (event.Stage d s i) w.request.id.0 refl)
      (tt, (stage_flags S.power d.id.0 w.request.id.0 s (λ up. unheld (is_held_at S.power d.id.0 (holding_of S.power w.request.id.0)) (not_up g more guard w up)), effect_calm plan _ w.request.id.0 d.id.0 s i)))
    where
      unheld : (b : Bool) → (b ≡ true → ⊥) → b ≡ false
      unheld true off = absurd (off refl)
      unheld false off = refl
