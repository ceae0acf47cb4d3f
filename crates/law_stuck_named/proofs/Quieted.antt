-- At each place of every run of a resolved plan, an interrupt whose DPC is queued is live: it is enabled, or its device
-- becomes quiet soon.
use Rattle.std.proofs.Common.{◌≡◌, ℕ, zero, suc, ◌+◌, ◌<◌, ◌≤◌, true, false, not, ◌&&◌, ◌||◌, List, [], ◌∷◌, ◌++◌, inl, inr, Option, Some, None, is_some, drop, length, map, refl, sym, ap, subst, ◌∙◌, arith}
use Rattle.std.specs.List.{list_all, range_with_len}
use Rattle.std.proofs.lemmas.Bool.{cases_Bool, or_cases}
use Rattle.wdf_base.specs.Meaning.{Meaning}
use Rattle.wdf_base.specs.Callbacks.{row_of}
use Rattle.wdf_base.specs.Plan.{declared_of}
use Rattle.wdf_base.specs.Resolved.{IsResolved}
use Rattle.wdf_base.specs.Same.{same_option, same_step}
use Rattle.wdf_base.specs.declared.plan.Plan.{Plan}
use Rattle.wdf_base.specs.declared.ids.Handle.{Handle}
use Rattle.wdf_base.specs.declared.value.Value.{Value}
use Rattle.wdf_base.specs.declared.declared.Declared.{Declared}
use Rattle.wdf_base.specs.declared.declared.DeviceInfo.{DeviceInfo}
use Rattle.wdf_base.specs.declared.declared.InterruptInfo.{InterruptInfo}
use Rattle.wdf_base.specs.declared.object.LockRef.{LockRef}
use Rattle.wdf_base.specs.declared.call.Callback.{Callback}
use Rattle.wdf_base.specs.declared.call.Callback.TheVariants as callback
use Rattle.wdf_base.specs.declared.rank.Rank.{Rank}
use Rattle.wdf_base.specs.declared.rank.Rank.TheVariants as rank
use Rattle.wdf_base.specs.declared.event.Event.{Event}
use Rattle.wdf_base.specs.declared.event.Event.TheVariants as event
use Rattle.wdf_base.specs.declared.event.Post.{Post}
use Rattle.wdf_base.specs.declared.event.Post.TheVariants as post
use Rattle.wdf_base.specs.declared.event.Stage.{Stage}
use Rattle.wdf_base.specs.declared.event.Stage.TheVariants as stage
use Rattle.wdf_base.specs.declared.event.Step.{Step}
use Rattle.wdf_base.specs.declared.event.Step.TheVariants as step
use Rattle.wdf_base.specs.Lives.{is_live}
use Rattle.wdf_model.specs.Tables.{entry, first_of_list}
use Rattle.wdf_model.specs.Plans.{as_interrupt, callback_irql, device_of, interrupt_of, interrupts_of, is_interrupt_of}
use Rattle.wdf_model.specs.parts.Tree.{life_of, nearest_device}
use Rattle.wdf_model.specs.parts.Cpus.{frame_of, is_running}
use Rattle.wdf_model.specs.parts.Locks.{lock_of_callback}
use Rattle.wdf_model.specs.parts.Interrupts.{is_enabled}
use Rattle.wdf_model.specs.parts.Deferred.Dpcs.{is_dpc_queued}
use Rattle.wdf_model.specs.parts.Pnp.{Sequence, is_running_step, next_step, no_sequence, opening_sequence, running_step, sequence_of, steps_left, taken_step}
use Rattle.wdf_model.specs.parts.Pnp as pnp
use Rattle.wdf_model.specs.State.{State, declared_in, is_proper, opening}
use Rattle.law_machine_base.specs.Agreement.{is_sequence}
use Rattle.law_machine_base.specs.Fits.{all_fit}
use Rattle.wdf_model.specs.Ids.{cpu_of, frame_id, irql_of, object_id}
use Rattle.wdf_model.specs.declared.deed.Deed.{Deed}
use Rattle.wdf_model.specs.declared.deed.Deed.TheVariants.{AdvancePower, DisableInterrupt, EndStep, PopFrame, PushFrame, TakeStep}
use Rattle.wdf_model.specs.rules.Deeds.{do_deeds}
use Rattle.wdf_model.specs.rules.Posts.{post_deeds}
use Rattle.wdf_model.specs.rules.Ready.{IsRunOf, state_after}
use Rattle.wdf_model.specs.rules.Starts.{effect, effect_for, end_of_step, handle_id, is_quiet, is_ready_for, may_pass, may_start, new_frame, next_number, rank_ready, release_if_any, stage_deeds, stage_ready, start_deeds, start_effect, step_of, step_ready, take_if_any}
use Rattle.wdf_model.specs.rules.Steps.{deeds, is_cpu, is_proper_if_any, may}
use Rattle.law_machine_base.proofs.FitsOfEvents.{event_fits}
use Rattle.wdf_model.proofs.Maps.{entry_put_same}
use Rattle.law_machine_base.proofs.OwnEvents.{IsEnd, end_tells}
use Rattle.wdf_model.proofs.Tests.{both, both_left, both_right, itself, not_true}
use Rattle.law_machine_lives.proofs.Keeping.{at_the_end, each_place_by}
use Rattle.law_machine_lives.proofs.Lists.{all_of_kept}
use Rattle.law_machine_lives.proofs.SoundEvents.{top_on}
use Rattle.law_trace_power.proofs.Frames.{Runs, is_step}
use Rattle.law_trace_power.proofs.Happens.{both_of, found_pass, not_running, taken_pass}
use Rattle.law_trace_power.proofs.Belonging.{device_of_interrupt, interrupt_found}
use Rattle.law_trace_power.proofs.Runs.{steps_agree_at_each}
use Rattle.law_trace_power.proofs.Unmoved.{event_none, is_moving, none_moves}
use Rattle.law_trace_power.specs.Steps.{StepsAndPowerAgree, enabled_says, phase_of}
use Rattle.law_trace_families.proofs.Families.{declared_within}
use Rattle.law_stuck_named.specs.Standing.{IsOver, is_live_device, is_part, is_part_of}
use Rattle.law_machine_lives.proofs.Deferring.{none_queued}
use Rattle.law_stuck_named.proofs.Soon.{IsSteady, Steady, comes_soon}
use Rattle.law_stuck_named.proofs.Standing.{AllComes, Comes, Stands}
use Rattle.law_stuck_named.proofs.Coming.{Facts, event_comes}
use Rattle.law_machine_once.proofs.Steps.{IsDeclaredStep, steps_declared}
use Rattle.law_stuck_named.proofs.Runs.{Known, known_now, stands_now}
use Rattle.law_stuck_named.proofs.Quieting.{AllServes, Quieting, Serves, quieting_by}
use Rattle.wdf_model.proofs.FrameCounts.{on}
use Rattle.law_machine_lives.proofs.AllOf.{all_behind, all_both, all_keep, all_such}

-- ---- deeds of which nothing is asked

calm_one : {A : Type 0} (plan : Plan) (d : Deed) (S : State A) → not (is_moving d) ≡ true → Serves plan d S
calm_one plan (TakeStep d) S h = absurd (let z : ⊥ = cc in z)
calm_one plan (EndStep d s v) S h = absurd (let z : ⊥ = cc in z)
calm_one plan (DisableInterrupt i) S h = absurd (let z : ⊥ = cc in z)
calm_one plan _ S h = tt

none_serves : {A : Type 0} (plan : Plan) (ds : List Deed) (S : State A) → none_moves ds ≡ true → AllServes plan ds S
none_serves {A} plan ds S h = all_such plan (λ (d : Deed) (U : State A). Serves plan d U) (λ d. not (is_moving d)) (calm_one plan) ds S h

-- ---- events

module _ {A : Type 0} (plan : Plan) (m : Meaning A) (S : State A) (facts : Facts plan S) (own : (d : ℕ) (s : Step) → next_step S.pnp d ≡ Some s → IsDeclaredStep plan d s) (k : Quieting plan S) where
  idle_at : (n : ℕ) (s : Step) → step_ready S n s ≡ true → running_step S.pnp n ≡ None
  idle_at n s ready =
      let now : (same_option same_step (next_step S.pnp n) (Some s) && not (is_running_step S.pnp n)) ≡ true = both_left (same_option same_step (next_step S.pnp n) (Some s) && not (is_running_step S.pnp n)) _ ready in
      not_running (running_step S.pnp n) (not_true (is_running_step S.pnp n) (both_right (same_option same_step (next_step S.pnp n) (Some s)) (not (is_running_step S.pnp n)) now))

  found_at : (n : ℕ) (s : Step) → step_ready S n s ≡ true → same_option same_step (next_step S.pnp n) (Some s) ≡ true
  found_at n s ready =
      both_left (same_option same_step (next_step S.pnp n) (Some s)) (not (is_running_step S.pnp n)) (both_left (same_option same_step (next_step S.pnp n) (Some s) && not (is_running_step S.pnp n)) _ ready)

  -- a callback is no stage
  no_stage : (o : Option Step) (c : Callback) (i j : Option Handle) → same_option same_step o (Some (step.Run c i)) ≡ true → o ≡ Some (step.Pass stage.Quiet j) → ⊥
  no_stage None c i j h e = let z : ⊥ = cc in z
  no_stage (Some (step.Run b l)) c i j h e = let z : ⊥ = cc in z
  no_stage (Some (step.Pass s l)) c i j h e = let z : ⊥ = cc in z

  begins : (k : Rank) (cpu : ℕ) (c : Callback) (o : ℕ) → rank_ready plan m S k cpu c o ≡ true → AllServes plan (effect plan S k cpu c o) S
  begins rank.Sequence cpu c o ready =
      let n : ℕ = nearest_device S.tree o in
      ((idle_at n (step_of plan S c o) ready, λ j i next is. absurd (no_stage (next_step S.pnp n) c _ j (found_at n (step_of plan S c o) ready) next)), tt)
  begins rank.Deferred cpu c o ready = (tt, tt)
  begins rank.Timed cpu c o ready = (tt, tt)
  begins rank.QueueState cpu c o ready = (tt, tt)
  begins rank.Work cpu c o ready = (tt, tt)
  begins rank.Cleanup cpu c o ready = (tt, tt)
  begins rank.Destroy cpu c o ready = (tt, tt)
  begins _ cpu c o ready = tt

  begins_for : (k : Rank) (o r : ℕ) → AllServes plan (effect_for k o r) S
  begins_for rank.Completion o r = (tt, tt)
  begins_for rank.Cancel o r = (tt, tt)
  begins_for rank.CanceledOnQueue o r = (tt, tt)
  begins_for rank.Stop o r = (tt, tt)
  begins_for rank.Resume o r = (tt, tt)
  begins_for rank.Handler o r = (tt, tt)
  begins_for _ o r = tt

  begins_by : (cpu : ℕ) (c : Callback) (o : ℕ) (r : Option Handle) → is_ready_for plan m S cpu c o r ≡ true → AllServes plan (start_effect plan S cpu c o r) S
  begins_by cpu c o None ready = begins (row_of c).rank cpu c o ready
  begins_by cpu c o (Some r) ready = begins_for (row_of c).rank o r.id.0

  taking_calm : (f : ℕ) (l : Option LockRef) (U : State A) → AllServes plan (take_if_any f l) U
  taking_calm f None U = tt
  taking_calm f (Some l) U = (tt, tt)

  starts : (cpu : ℕ) (c : Callback) (o : Handle) (r : Option Handle) → may_start plan m S cpu c o.id.0 r ≡ true → AllServes plan (start_deeds plan S cpu c o r) S
  starts cpu c o r may_come =
      let ready : is_ready_for plan m S cpu c o.id.0 r ≡ true = search (both_left, both_right) in
      let l : Option LockRef = lock_of_callback plan c o.id.0 (declared_in plan S o.id.0) in
      all_behind plan (λ (d : Deed) (U : State A). Serves plan d U) (start_effect plan S cpu c o.id.0 r) (PushFrame (cpu_of cpu) (frame_id (next_number S)) (new_frame plan S c o r) (irql_of (callback_irql plan c o.id.0)) ∷ take_if_any (next_number S) l) S
      (begins_by cpu c o.id.0 r ready) (tt, taking_calm (next_number S) l _)

  -- ---- callbacks end

  step_ends : (cpu : ℕ) (c : Callback) (o : Handle) (v : Value) → IsEnd plan S cpu c o v → is_sequence (row_of c).rank ≡ true → (j : Option Handle) × (running_step S.pnp (nearest_device S.tree o.id.0) ≡ Some (step.Run c j))
  step_ends cpu c o v t is =
      let n : ℕ = nearest_device S.tree o.id.0 in
      let g : ℕ = t.frame in
      let there : 1 ≤ on S.cpus g = top_on S.cpus cpu g t.about.top in
      let step_ : is_step (frame_of S.cpus g) ≡ true = ap (λ x. is_sequence (row_of x).rank) (sym t.callback) ∙ is in
      let at : (frame_of S.cpus g).device.id.0 ≡ n = facts.known.known.frames.device g there ∙ ap (λ (x : Handle). nearest_device S.tree x.id.0) (sym t.object) in
      let runs : Runs S.pnp (frame_of S.cpus g) = facts.frames.steps g there step_ in
      (runs.0, sym (ap (running_step S.pnp) at) ∙ runs.1 ∙ ap (λ x. Some (step.Run x runs.0)) (sym t.callback))

  ending : (c : Callback) (o : Handle) (v : Value) (x : Rank) (U : State A) → U.pnp ≡ S.pnp → (is_sequence x ≡ true → (j : Option Handle) × (running_step S.pnp (nearest_device S.tree o.id.0) ≡ Some (step.Run c j))) → AllServes plan (end_of_step plan S x c o.id.0 v) U
  ending c o v rank.Sequence U e h =
      let r = h refl in
      ((c, r.0, _, refl, ap (λ Q. running_step Q (nearest_device S.tree o.id.0)) e ∙ r.1), tt)
  ending c o v _ U e h = tt

  ends_by : (cpu : ℕ) (l : Option LockRef) (es : List Deed) → ((U : State A) → U.pnp ≡ S.pnp → AllServes plan es U) → AllServes plan (release_if_any l ++ PopFrame (cpu_of cpu) ∷ es) S
  ends_by cpu None es h = (tt, h _ refl)
  ends_by cpu (Some l) es h = (tt, (tt, h _ refl))

  -- ---- stages

  is_of : (n : ℕ) (s : Stage) (j : Option Handle) → step_ready S n (step.Pass s j) ≡ true → steps_left S.pnp n ≡ step.Pass s j ∷ drop 1 (steps_left S.pnp n)
  is_of n s j ready = found_pass (steps_left S.pnp n) s j (found_at n (step.Pass s j) ready)

  quiet_now : (n : ℕ) (i : ℕ) → is_quiet plan S n ≡ true → is_interrupt_of n (interrupt_of plan i) ≡ true → is_dpc_queued S.dpcs i ≡ false
  quiet_now n i h is =
      let all : list_all (λ x. not (is_dpc_queued S.dpcs x)) (interrupts_of plan n) ≡ true = both_left (list_all (λ x. not (is_dpc_queued S.dpcs x)) (interrupts_of plan n)) (not (is_running S.cpus callback.EvtInterruptDpc n)) h in
      let low : i < suc (length plan.declared) = within (declared_of plan i) refl is in
      not_true (is_dpc_queued S.dpcs i) (all_of_kept (λ x. not (is_dpc_queued S.dpcs x)) (λ x. is_interrupt_of n (interrupt_of plan x)) i 0 (suc (length plan.declared)) (omega arith) (omega arith) all is)
    where
      within : (x : Option Declared) → declared_of plan i ≡ x → is_interrupt_of n (as_interrupt x) ≡ true → i < suc (length plan.declared)
      within None e h = absurd (let z : ⊥ = cc in z)
      within (Some x) e h = let w = declared_within plan i x e in omega arith

  stage_is : (ss : List Step) (s t : Stage) (j l : Option Handle) (ts : List Step) → ss ≡ step.Pass s j ∷ ts → first_of_list ss ≡ Some (step.Pass t l) → s ≡ t
  stage_is ss s t j l ts e h = stage_of (sym (ap first_of_list e) ∙ h)
    where
      stage_of : Some (step.Pass s j) ≡ Some (step.Pass t l) → s ≡ t
      stage_of q = cc

  takes_well : (n : ℕ) (s : Stage) (j : Option Handle) → may_pass plan S n s j ≡ true → Serves plan (TakeStep (object_id n)) S
  takes_well n s j may_come =
      let ready : step_ready S n (step.Pass s j) ≡ true = both_left (step_ready S n (step.Pass s j)) (stage_ready plan S n s j) may_come in
      let staged : stage_ready plan S n s j ≡ true = both_right (step_ready S n (step.Pass s j)) (stage_ready plan S n s j) may_come in (
        idle_at n (step.Pass s j) ready,
        λ l i next is.
            let same : s ≡ stage.Quiet = stage_is (steps_left S.pnp n) s stage.Quiet j l (drop 1 (steps_left S.pnp n)) (is_of n s j ready) next in
            quiet_now n i (subst (λ t. stage_ready plan S n t j ≡ true) same staged) is,
      )

  -- the interrupt that is disabled is one of the device
  disables_well : (n : ℕ) (j : Option Handle) → may_pass plan S n stage.Disabled j ≡ true → Serves plan (DisableInterrupt (object_id (handle_id j))) (do_deeds plan (TakeStep (object_id n) ∷ AdvancePower (object_id n) (step.Pass stage.Disabled j) ∷ []) S)
  disables_well n None may_come = λ d is. absurd (let z : ⊥ = cc in z)
  disables_well n (Some i) may_come = λ d is.
      let ready : step_ready S n (step.Pass stage.Disabled (Some i)) ≡ true = both_left (step_ready S n (step.Pass stage.Disabled (Some i))) (stage_ready plan S n stage.Disabled (Some i)) may_come in
      let next : steps_left S.pnp n ≡ step.Pass stage.Disabled (Some i) ∷ drop 1 (steps_left S.pnp n) = is_of n stage.Disabled (Some i) ready in
      let mine : is_interrupt_of n (interrupt_of plan i.id.0) ≡ true = (own n (step.Pass stage.Disabled (Some i)) (ap first_of_list next)).2 in
      let same : d ≡ n = both_of d n (interrupt_of plan i.id.0) is mine in
      let steady : Steady (step.Pass stage.Disabled (Some i) ∷ drop 1 (steps_left S.pnp n)) = subst Steady next (k.steady n).left in
      let soon : comes_soon (drop 1 (steps_left S.pnp n)) ≡ true = steady.0 in
      let left : steps_left (pnp.taken S.pnp n) n ≡ drop 1 (steps_left S.pnp n) = ap (λ (q : Sequence). q.left) (entry_put_same no_sequence S.pnp.devices n (taken_step (sequence_of S.pnp n)) ∙ taken_pass (sequence_of S.pnp n) stage.Disabled (Some i) (drop 1 (steps_left S.pnp n)) next) in
      subst (λ y. comes_soon (steps_left (pnp.taken S.pnp n) y) ≡ true) (sym same) (ap comes_soon left ∙ soon)

  effects : (n : ℕ) (s : Stage) (j : Option Handle) → may_pass plan S n s j ≡ true → AllServes plan (stage_deeds plan n s j) S
  effects n stage.Disabled j h = (takes_well n stage.Disabled j h, (tt, (disables_well n j h, tt)))
  effects n stage.Enabled j h = (takes_well n stage.Enabled j h, (tt, (tt, tt)))
  effects n stage.QueuesDown j h = (takes_well n stage.QueuesDown j h, (tt, (tt, tt)))
  effects n stage.Closed j h = (takes_well n stage.Closed j h, (tt, (tt, tt)))
  effects n stage.Removed j h = (takes_well n stage.Removed j h, (tt, (tt, tt)))
  effects n stage.Hardware j h = (takes_well n stage.Hardware j h, (tt, tt))
  effects n stage.NoHardware j h = (takes_well n stage.NoHardware j h, (tt, tt))
  effects n stage.QueuesUp j h = (takes_well n stage.QueuesUp j h, (tt, tt))
  effects n stage.Settled j h = (takes_well n stage.Settled j h, (tt, tt))
  effects n stage.Quiet j h = (takes_well n stage.Quiet j h, (tt, tt))
  effects n stage.Working j h = (takes_well n stage.Working j h, (tt, tt))
  effects n stage.Sleeping j h = (takes_well n stage.Sleeping j h, (tt, tt))

  -- ---- all events

  posts : (agent : ℕ) (p : Post) → AllServes plan (post_deeds plan S agent p) S
  posts agent (post.Ask a device) = (tt, tt)
  posts agent p = none_serves plan (post_deeds plan S agent p) S (event_none plan S (event.Posted agent p None) refl)

  pub event_serves : (e : Event) → may plan m S e ≡ true → AllServes plan (deeds plan S e) S
  event_serves (event.Start cpu c o r) h = starts cpu.0 c o r (both_right (is_cpu plan cpu && is_proper plan S o && is_proper_if_any plan S r) (may_start plan m S cpu.0 c o.id.0 r) h)
  event_serves (event.End cpu c o v) h =
      let t = end_tells plan m S cpu c o v h in
      ends_by cpu.0 (lock_of_callback plan c o.id.0 (declared_in plan S o.id.0)) (end_of_step plan S (row_of c).rank c o.id.0 v) (λ U e. ending c o v (row_of c).rank U e (step_ends cpu.0 c o v t))
  event_serves (event.Stage n s j) h = effects n.id.0 s j (both_right (is_proper plan S n) (may_pass plan S n.id.0 s j) h)
  event_serves (event.Posted agent p answer) h = posts agent p
  event_serves e h = none_serves plan (deeds plan S e) S (event_none plan S e refl)

-- ---- each place of a run

deeds_quieten : {A : Type 0} (plan : Plan) (ds : List Deed) (S : State A) → all_fit plan ds S ≡ true → AllComes plan ds S → AllServes plan ds S → Quieting plan S → Quieting plan (do_deeds plan ds S)
deeds_quieten {A} plan ds S f c s k =
    all_keep plan (λ (d : Deed) (U : State A). Comes plan d U × Serves plan d U) (λ (U : State A). Quieting plan U) (λ d U fit p q. quieting_by plan d U fit p.0 p.1 q)
    ds S f (all_both plan (λ (d : Deed) (U : State A). Comes plan d U) (λ (d : Deed) (U : State A). Serves plan d U) ds S c s) k

in_range : (P : Sequence → Type 0) (f : ℕ → Sequence) → P no_sequence → ((x : ℕ) → P (f x)) → (a n d : ℕ) → P (entry no_sequence (map f (range_with_len a n)) d)
in_range P f off on_ a zero d = off
in_range P f off on_ a (suc n) zero = on_ a
in_range P f off on_ a (suc n) (suc d) = in_range P f off on_ (a + 1) n d

opening_steady : (plan : Plan) (d : ℕ) (x : Option DeviceInfo) → IsSteady (opening_sequence plan d x)
opening_steady plan d None = record { left = tt; running = tt }
opening_steady plan d (Some i) = record { left = tt; running = tt }

opening_quiet : {A : Type 0} (plan : Plan) (m : Meaning A) → Quieting plan (opening plan m)
opening_quiet plan m = record {
  steady = λ d. in_range IsSteady (λ x. opening_sequence plan x (device_of plan x)) (record { left = tt; running = tt }) (λ x. opening_steady plan x (device_of plan x)) 0 (suc (length plan.declared)) d;
  dpcs = λ d i is h. absurd (none_queued i plan.cpus h);
}

record KnownToo {A : Type 0} (plan : Plan) (S : State A) : Type 0 where
  known : Known plan S
  stands : Stands plan S
  own : (d : ℕ) (s : Step) → next_step S.pnp d ≡ Some s → IsDeclaredStep plan d s

known_too : {A : Type 0} (plan : Plan) (m : Meaning A) → IsResolved plan → (run : List Event) → IsRunOf plan m run → KnownToo plan (state_after plan m run)
known_too {A} plan m resolved run is_run = record {
  known = known_now plan m resolved run is_run;
  stands = stands_now plan m run resolved is_run;
  own = at_the_end plan m (λ (S : State A). (d : ℕ) (s : Step) → next_step S.pnp d ≡ Some s → IsDeclaredStep plan d s) run (steps_declared plan m run is_run (length run));
}

pub quieting_now : {A : Type 0} (plan : Plan) (m : Meaning A) (run : List Event) → IsResolved plan → IsRunOf plan m run → Quieting plan (state_after plan m run)
quieting_now {A} plan m run resolved is_run = at_the_end plan m (λ (S : State A). Quieting plan S) run
    (each_place_by plan m (λ (S : State A). KnownToo plan S) (λ (S : State A). Quieting plan S) (known_too plan m resolved) (opening_quiet plan m)
    (λ S e n h k.
    let u = deeds_quieten plan (deeds plan S e) S (event_fits plan m S e h) (event_comes plan S resolved n.known.facts n.stands m e h) (event_serves plan m S n.known.facts n.own k e h) k in
    record { steady = u.steady; dpcs = u.dpcs })
    (λ S time k. record { steady = k.steady; dpcs = k.dpcs })
    run is_run (length run))

-- ---- an interrupt whose DPC is queued

pub interrupt_live : {A : Type 0} (plan : Plan) (m : Meaning A) (run : List Event) → IsResolved plan → IsRunOf plan m run → (i : ℕ) (x : InterruptInfo) → interrupt_of plan i ≡ Some x → is_dpc_queued (state_after plan m run).dpcs i ≡ true → is_live (life_of (state_after plan m run).tree i) ≡ true
interrupt_live {A} plan m run resolved is_run i x at queued =
    let S : State A = state_after plan m run in
    let d : ℕ = x.device.0 in
    let k : Stands plan S = stands_now plan m run resolved is_run in
    let q : Quieting plan S = quieting_now plan m run resolved is_run in
    let power : StepsAndPowerAgree plan S = at_the_end plan m (λ (S : State A). StepsAndPowerAgree plan S) run (steps_agree_at_each plan m run resolved is_run (length run)) in
    let dev : is_some (device_of plan d) ≡ true = device_of_interrupt plan resolved i x at in
    let mine : is_interrupt_of d (interrupt_of plan i) ≡ true = ap (is_interrupt_of d) at ∙ itself d in
    let soon : (is_enabled S.interrupts i || comes_soon (steps_left S.pnp d)) ≡ true = q.dpcs d i mine queued in
    let part : is_part_of plan d i ≡ true = both (is_part d (declared_of plan i)) (is_some (device_of plan d)) (ap (is_part d) (interrupt_found (declared_of plan i) x at) ∙ itself d) dev in
    elim (cases_Bool (is_live_device plan S d)) [
      | inl on_ ↦ k.parts d i part (both_right (is_some (device_of plan d)) (is_live (life_of S.tree d)) on_)
      | inr off ↦ absurd (
          let over : IsOver (sequence_of S.pnp d) = k.over d off in
          let says : is_enabled S.interrupts i ≡ enabled_says i (phase_of S.pnp d) (steps_left S.pnp d) = power.interrupts d i dev mine in
          let no_ : is_enabled S.interrupts i ≡ false = says ∙ ap (enabled_says i (phase_of S.pnp d)) over.left ∙ ap (λ p. enabled_says i p []) over.phase in
          let never : comes_soon (steps_left S.pnp d) ≡ false = ap comes_soon over.left in
          elim (or_cases (is_enabled S.interrupts i) (comes_soon (steps_left S.pnp d)) soon) as (λ _. ⊥) [
            | inl y ↦ let z : ⊥ = cc in z
            | inr y ↦ let z : ⊥ = cc in z
          ])
    ]
