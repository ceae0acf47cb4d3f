-- The law on what a device waits for as it loses power, at each place of every run of a resolved plan.
use Rattle.std.proofs.Common.{◌≡◌, ℕ, zero, suc, ◌+◌, ◌==◌, Bool, true, false, not, ◌&&◌, ◌||◌, List, [], ◌∷◌, ◌++◌, ◌⊎◌, inl, inr, Option, Some, None, drop, map, slice_get, take, refl, sym, ap, subst, ◌∙◌, arith}
use Rattle.std.specs.List.{list_all}
use Rattle.std.proofs.lemmas.Bool.{eqb-true}
use Rattle.wdf_base.specs.Meaning.{Meaning}
use Rattle.wdf_base.specs.Resolved.{IsResolved}
use Rattle.wdf_base.specs.declared.ids.Cpu.{Cpu}
use Rattle.wdf_base.specs.declared.ids.Handle.{Handle}
use Rattle.wdf_base.specs.declared.plan.Plan.{Plan}
use Rattle.wdf_base.specs.declared.declared.DeviceInfo.{DeviceInfo}
use Rattle.wdf_base.specs.declared.call.CallKind.{CallKind}
use Rattle.wdf_base.specs.declared.call.CallKind.TheVariants as call
use Rattle.wdf_base.specs.declared.call.Callback.{Callback}
use Rattle.wdf_base.specs.declared.call.Callback.TheVariants as callback
use Rattle.wdf_base.specs.declared.event.Event.{Event}
use Rattle.wdf_base.specs.declared.event.Event.TheVariants as event
use Rattle.wdf_base.specs.declared.event.Stage.{Stage}
use Rattle.wdf_base.specs.declared.event.Stage.TheVariants as stage
use Rattle.wdf_base.specs.declared.event.Step.{Step}
use Rattle.wdf_base.specs.declared.event.Step.TheVariants as step
use Rattle.wdf_base.specs.Same.{same_call_kind, same_callback, same_option, same_step}
use Rattle.wdf_base.specs.Lives.{is_live}
use Rattle.wdf_model.specs.Tables.{entry, same_id}
use Rattle.wdf_model.specs.Plans.{declared_ids, device_of, is_managed, queue_of}
use Rattle.wdf_model.specs.parts.Tree.{life_of, nearest_device}
use Rattle.wdf_model.specs.parts.Requests.{origin_of}
use Rattle.wdf_model.specs.parts.Power.{acknowledged, holding_of, is_held, opening_power, queue_power}
use Rattle.wdf_model.specs.parts.Pnp.{Sequence, is_running_step, next_step, no_sequence, opening_pnp, opening_sequence, sequence_of, steps_left}
use Rattle.wdf_model.specs.State.{State, declared_in, is_proper, is_with_driver}
use Rattle.wdf_model.specs.declared.deed.Deed.TheVariants.{PassTick}
use Rattle.wdf_model.specs.rules.Deeds.{counted, do_deeds}
use Rattle.wdf_base.specs.Values.{arg_is}
use Rattle.wdf_model.specs.rules.Starts.{interrupt_of_step, may_start, step_of, step_ready}
use Rattle.wdf_model.specs.rules.Steps.{after, deeds, is_cpu, is_proper_if_any, may}
use Rattle.wdf_model.specs.rules.Ready.{IsRunOf, ready, state_after}
use Rattle.law_machine_base.specs.FactsOfEvents.{IsTick}
use Rattle.law_machine_base.proofs.Follows.{state_goes_on}
use Rattle.wdf_model.proofs.Runs.{run_front, take_ended, take_next}
use Rattle.wdf_model.proofs.Counts.{equal}
use Rattle.wdf_model.proofs.Sames.{callback_decides}
use Rattle.wdf_model.proofs.Tests.{both, both_left, both_right}
use Rattle.law_machine_lives.proofs.LivesOver.{lives_at_each}
use Rattle.law_machine_lives.proofs.SoundRuns.{KnownAll, all_known, all_sound}
use Rattle.law_trace_families.proofs.Families.{family_at_each}
use Rattle.wdf_laws.specs.declared.sign.Sign.TheVariants as sign
use Rattle.wdf_laws.specs.declared.sign.Taking.{Taking}
use Rattle.wdf_laws.specs.Events.{argument_object, is_id, pair_of, taken, value_object, where_so}
use Rattle.wdf_laws.specs.Laws.{all_acknowledged, is_acknowledged, is_acknowledged_at, is_managed_of, law_6}
use Rattle.wdf_laws.specs.Signs.{is_taking_of, shows}
use Rattle.wdf_laws.specs.Words.{followed, stands}
use Rattle.law_trace_requests.proofs.Cancels.{stands_next}
use Rattle.law_trace_requests.proofs.CancelsOverRuns.{started}
use Rattle.law_trace_held.proofs.Holdings.{noted}
use Rattle.law_trace_held.proofs.HoldingsOverRuns.{held_as_told_at_each}
use Rattle.law_trace_held.proofs.Settled.{noted_at, noted_is, settles_acknowledged_at_each}
use Rattle.law_trace_held.proofs.StillAcked.{either_acks}
use Rattle.law_trace_held.proofs.AckedAsTold.{AsTold, as_told_at_each}
use Rattle.law_trace_power.proofs.Declares.{declares_device, own_device_of}
use Rattle.law_trace_power.proofs.Events.{Kept, staged}
use Rattle.law_trace_power.proofs.Happens.{found_run, stage_allowed}
use Rattle.law_trace_power.proofs.Laws.{comes_by}
use Rattle.law_trace_power.proofs.Runs.{kept_at_each}
use Rattle.law_machine_counts.proofs.StillFrames.{live_there}
use Rattle.law_machine_lives.proofs.Keeping.{comes}
use Rattle.law_trace_settled.proofs.Acks.{AckedDown, acked_after}
use Rattle.law_trace_settled.proofs.Along.{fits, next}
use Rattle.law_trace_settled.proofs.Course.{AllAcked, Course, OnCourse, TakesUp, course_after, followed_on, stood, up_in}
use Rattle.law_trace_settled.proofs.Moves.{Asked, Begun, Change, Ended, Moved, Passed, Unmoved, changes}
use Rattle.law_trace_settled.proofs.Never.{no_stage_of_clock, no_tick, not_so, not_such}
use Rattle.law_trace_settled.proofs.Queues.{is_of}
use Rattle.law_trace_settled.proofs.ReturnsUp.{ReturnsUp, returns_after}
use Rattle.law_trace_settled.proofs.Stops.{StopFrames, start_parts, stops_after}
use Rattle.law_trace_settled.proofs.Takes.{takes_up}
use Rattle.law_machine_counts.proofs.StepsOverRuns.{none_yet}

-- what holds of devices, of frames of EvtIoStop, and of requests that are acknowledged or return
pub record Settles {A : Type 0} (plan : Plan) (S : State A) (es : List Event) : Type 0 where
  pub course : Course plan S.pnp S.power.devices es
  pub stops : StopFrames plan S.cpus S.pnp
  pub acked : AckedDown plan S es
  pub returns : ReturnsUp plan S

counted_too : {A : Type 0} (plan : Plan) (m : Meaning A) (e : Event) (S : State A) (es : List Event) → Settles plan S es → Settles plan (counted m e S) es
counted_too plan m e S es k = record { course = k.course; stops = k.stops; acked = k.acked; returns = k.returns }

-- ---- the opening

opening_left : (plan : Plan) (d : ℕ) (x : Option DeviceInfo) → ((opening_sequence plan d x).left ≡ []) × ((opening_sequence plan d x).running ≡ None)
opening_left plan d None = (refl, refl)
opening_left plan d (Some i) = (refl, refl)

rests_by : (plan : Plan) (q : Sequence) (up : Bool) (d : ℕ) → q.left ≡ [] → q.running ≡ None → OnCourse plan q up [] d
rests_by plan q up d left running = record {
  way = record { down = false; settled = false };
  fits = rw left refl;
  idle = λ h. refl;
  down = λ h. absurd (let z : ⊥ = cc in z);
  settled = λ h. absurd (let z : ⊥ = cc in z);
}

pub listed_by : {T : Type 0} (P : T → Type 0) (blank : T) (f : ℕ → T) (ids : List ℕ) (d : ℕ) → P blank → ((x : ℕ) → P (f x)) → P (entry blank (map f ids) d)
listed_by P blank f [] d h k = h
listed_by P blank f (x ∷ xs) zero h k = k x
listed_by P blank f (x ∷ xs) (suc d) h k = listed_by P blank f xs d h k

settles_first : {A : Type 0} (plan : Plan) (m : Meaning A) → Settles plan (state_after plan m []) []
unfolding state_after
settles_first plan m = record {
  course = λ d.
      let t = listed_by (λ (q : Sequence). (q.left ≡ []) × (q.running ≡ None)) no_sequence (λ x. opening_sequence plan x (device_of plan x)) (declared_ids plan) d (refl, refl) (λ x. opening_left plan x (device_of plan x)) in
      rests_by plan (sequence_of (opening_pnp plan) d) (up_in (opening_power plan).devices d) d t.0 t.1;
  stops = λ f h is. absurd (let e = none_yet plan (λ x. x == f) in omega arith);
  acked = λ x t d of. absurd (let z : ⊥ = cc in z);
  returns = λ r q h. absurd (let z : ⊥ = cc in z);
}

-- ---- an acknowledgement takes nothing

retrieves_not : (k : CallKind) → same_call_kind k call.WdfRequestStopAcknowledge ≡ true → same_call_kind k call.WdfIoQueueRetrieveNextRequest ≡ false
retrieves_not call.WdfIoQueueRetrieveNextRequest h = absurd (let z : ⊥ = cc in z)
retrieves_not _ h = refl

takes_nothing : (e : Event) (x q : ℕ) → shows (sign.Acknowledgement x) e ≡ true → shows (sign.TakingFrom x q) e ≡ false
takes_nothing (event.Did cpu c v) x q h =
    let told = where_kind (same_call_kind c.kind call.WdfRequestStopAcknowledge) (arg_is c.b 0) (argument_object c.a) h in
    ap (λ b. is_taking_of x q (pair_of (where_so b (value_object v)) (argument_object c.a))) (retrieves_not c.kind told)
  where
    where_kind : (a b : Bool) (o : Option ℕ) → is_id x (where_so (a && b) o) ≡ true → a ≡ true
    where_kind true b o h = refl
    where_kind false b o h = absurd (let z : ⊥ = cc in z)
takes_nothing e x q h = absurd (not_so h)

-- ---- each place

module _ {A : Type 0} (plan : Plan) (m : Meaning A) (run : List Event) (resolved : IsResolved plan) (is_run : IsRunOf plan m run) where
  abbrev at_place : ℕ → State A
  at_place n = state_after plan m (take n run)

  known_at : (n : ℕ) → KnownAll plan (at_place n)
  known_at n = all_known plan m (take n run) (run_front (ready plan m) run n is_run)

  kept_at : (n : ℕ) → Kept plan (at_place n) (take n run)
  kept_at n = kept_at_each plan m run resolved is_run n

  -- what the events of a step say after it
  told_next : (n : ℕ) (e : Event) → slice_get run n ≡ Some e → AsTold plan (take n run ++ e ∷ []) (after plan m (at_place n) e).power
  told_next n e at =
      subst (λ (U : State A). AsTold plan (take n run ++ e ∷ []) U.power) (state_goes_on plan m (take n run) e)
      (subst (λ es. AsTold plan es (state_after plan m es).power) (take_next run n e at) (as_told_at_each plan m run is_run (suc n)))

  -- what is acknowledged by an event came from the queue from which it is held
  origin_at : (n : ℕ) (e : Event) → slice_get run n ≡ Some e → (x q d : ℕ) → is_managed_of d (queue_of plan q) ≡ true → noted (after plan m (at_place n) e).power x ≡ q → shows (sign.Acknowledgement x) e ≡ true
      → same_id (origin_of (at_place n).requests x) q ≡ true
  origin_at n e at x q d of note t =
      let managed : is_managed plan q ≡ true = (is_of plan d q of).0 in
      let held : stands (sign.TakingFrom x q) (sign.GivingUp x) (take n run ++ e ∷ []) ≡ true = (told_next n e at).held x q managed ∙ equal (noted (after plan m (at_place n) e).power x) q note in
      let before : stands (sign.TakingFrom x q) (sign.GivingUp x) (take n run) ≡ true
      = stood (shows (sign.TakingFrom x q) e) (stands (sign.TakingFrom x q) (sign.GivingUp x) (take n run)) (shows (sign.GivingUp x) e) (takes_nothing e x q t) (sym (stands_next (sign.TakingFrom x q) (sign.GivingUp x) (take n run) e) ∙ held) in
      both_left (same_id (origin_of (at_place n).requests x) q) (is_with_driver (at_place n) x) (sym (held_as_told_at_each plan m run n x q is_run managed) ∙ before)

  -- where a device is settled, all is acknowledged
  acked_at : (n : ℕ) (device : Handle) (j : Option Handle) → slice_get run n ≡ Some (event.Stage device stage.Settled j) → AckedDown plan (at_place n) (take n run) → AllAcked plan (take n run) device.id.0
  acked_at n device j at k r q of held =
      let S : State A = at_place n in
      let note : noted S.power r ≡ q = noted_is plan m run is_run n r q device.id.0 of held in
      let flag_ : acknowledged S.power r ≡ true = settles_acknowledged_at_each plan m run n device j r q is_run at of held in
      let there : is_held (holding_of S.power r) ≡ true = both_left (is_held (holding_of S.power r)) ((queue_power S.power (holding_of S.power r).queue.0).device.0 == device.id.0) (noted_at plan m run is_run n r q device.id.0 of held) in
      (k r (both (is_held (holding_of S.power r)) (acknowledged S.power r) there flag_) device.id.0 (subst (λ y. is_managed_of device.id.0 (queue_of plan y) ≡ true) (sym note) of)).0

  -- queues go down only where they are up
  falls_at : (n : ℕ) (U : State A) (e : Event) → Moved plan (at_place n) U e → (d : ℕ) → shows (sign.QueuesDown d) e ≡ true → up_in (at_place n).power.devices d ≡ true
  falls_at n U e (Unmoved quiet_ same devices) d t = absurd (not_such (sym t ∙ (quiet_ d).1))
  falls_at n U e (Begun o c j quiet_ idle next_ same devices) d t = absurd (not_such (sym t ∙ (quiet_ d).1))
  falls_at n U e (Ended o c j l v quiet_ runs same devices) d t = absurd (not_such (sym t ∙ (quiet_ d).1))
  falls_at n U e (Asked o a quiet_ free same devices) d t = absurd (not_such (sym t ∙ (quiet_ d).1))
  falls_at n U e (Passed device s j is may_come idle next_ same devices) d t = by_stage s next_ (subst (λ x. shows (sign.QueuesDown d) x ≡ true) is t)
    where
      by_stage : (s : Stage) → steps_left (at_place n).pnp device.id.0 ≡ step.Pass s j ∷ drop 1 (steps_left (at_place n).pnp device.id.0) → shows (sign.QueuesDown d) (event.Stage device s j) ≡ true → up_in (at_place n).power.devices d ≡ true
      by_stage stage.QueuesDown next_ t =
          let k = kept_at n in
          let up : (k.hold device.id.0 0).standing.up ≡ true = stage_allowed plan (take n run) (at_place n).pnp (at_place n).power.devices (at_place n).interrupts k.hold device stage.QueuesDown j idle next_ 0 in
          subst (λ y. up_in (at_place n).power.devices y ≡ true) (eqb-true device.id.0 d t) (sym (k.hold device.id.0 0).up ∙ up)
      by_stage s next_ t = absurd (not_so t)

  -- ---- an event that may come

  comes_next : (n : ℕ) (e : Event) → slice_get run n ≡ Some e → may plan m (at_place n) e ≡ true → Settles plan (at_place n) (take n run) → Settles plan (do_deeds plan (deeds plan (at_place n) e) (at_place n)) (take n run ++ e ∷ [])
  comes_next n e at h k =
      let S : State A = at_place n in
      let es : List Event = take n run in
      let U : State A = do_deeds plan (deeds plan S e) S in
      let c : Change plan S U e = changes plan m S es resolved (known_at n) (kept_at n) e h in
      let takes : TakesUp plan S.power.devices e = takes_up plan m S e k.returns h in
      record {
        course = course_after plan S U es e takes k.course (λ device s j is settled. acked_at n device j (at ∙ ap Some (is ∙ ap (λ x. event.Stage device x j) settled)) k.acked) c.moved;
        stops = stops_after plan m S U es e resolved (known_at n).known.declared (lives_at_each plan m run resolved is_run n) (family_at_each plan m run is_run n) h c k.course k.stops;
        acked = acked_after plan m S U es e k.course k.stops c.moved k.acked (falls_at n U e c.moved) (λ x t d of. ((told_next n e at).acked x t).up d of) (λ x q d t of note told. origin_at n e at x q d of note told) (λ x told. h)
            (either_acks plan m S (ready plan m es) e (inl h));
        returns = returns_after plan m S (known_at n) k.returns (λ device s j may_come. (staged plan m S es resolved (known_at n) (kept_at n) device.id.0 s j (all_sound plan m S (event.Stage device s j) (known_at n) may_come).1.1).devices) e h;
      }

  -- ---- the clock

  ticks : (n time : ℕ) → Settles plan (at_place n) (take n run) → Settles plan (do_deeds plan (PassTick ∷ []) (at_place n)) (take n run ++ event.Tick time ∷ [])
  ticks n time k =
      let S : State A = at_place n in
      let U : State A = do_deeds plan (PassTick ∷ []) S in
      record {
        course = course_after plan S U (take n run) (event.Tick time) (λ r q d of t. absurd (not_so t)) k.course (λ device s j is settled. absurd (no_stage_of_clock time device s j is)) (Unmoved (λ d. (refl, refl)) refl refl);
        stops = k.stops;
        acked = λ x t d of. let old = k.acked x t d of in (followed_on (sign.QueuesDown d) (sign.Acknowledgement x) (take n run) (event.Tick time) refl old.0, old.1);
        returns = k.returns;
      }

  goes_on : (n : ℕ) (e : Event) → slice_get run n ≡ Some e → (may plan m (at_place n) e ≡ true) ⊎ IsTick m (at_place n) (ready plan m (take n run)) e → Settles plan (at_place n) (take n run)
      → Settles plan (after plan m (at_place n) e) (take n run ++ e ∷ [])
  goes_on n e at (inl h) k = counted_too plan m e (do_deeds plan (deeds plan (at_place n) e) (at_place n)) (take n run ++ e ∷ []) (comes_next n e at h k)
  goes_on n e at (inr t) k =
      let S : State A = at_place n in
      let time : ℕ = S.clock + 1 in
      subst (λ x. Settles plan (after plan m S x) (take n run ++ x ∷ [])) (sym t.tick)
      (counted_too plan m (event.Tick time) (do_deeds plan (PassTick ∷ []) S) (take n run ++ event.Tick time ∷ []) (ticks n time k))

  next_place : (n : ℕ) (found : Option Event) → slice_get run n ≡ found → Settles plan (at_place n) (take n run) → Settles plan (at_place (suc n)) (take (suc n) run)
  next_place n None at k = subst (λ es. Settles plan (state_after plan m es) es) (sym (take_ended run n at)) k
  next_place n (Some e) at k =
      subst (λ es. Settles plan (state_after plan m es) es) (sym (take_next run n e at))
      (subst (λ (U : State A). Settles plan U (take n run ++ e ∷ [])) (sym (state_goes_on plan m (take n run) e)) (goes_on n e at (comes_by plan m run n e is_run at) k))

  settles_at : (n : ℕ) → Settles plan (at_place n) (take n run)
  settles_at zero = settles_first plan m
  settles_at (suc n) = next_place n (slice_get run n) refl (settles_at n)

  -- ---- where a device loses power

  pub settled_acked : (n : ℕ) (device : Handle) (j : Option Handle) → slice_get run n ≡ Some (event.Stage device stage.Settled j) → AllAcked plan (take n run) device.id.0
  settled_acked n device j at = acked_at n device j at (settles_at n).acked

  exit_ready : (n : ℕ) (cpu : Cpu) (o : Handle) (r : Option Handle) → may plan m (at_place n) (event.Start cpu callback.EvtDeviceD0Exit o r) ≡ true → step_ready (at_place n) (nearest_device (at_place n).tree o.id.0) (step_of plan (at_place n) callback.EvtDeviceD0Exit o.id.0) ≡ true
  exit_ready n cpu o None h = started plan m (at_place n) cpu callback.EvtDeviceD0Exit o None h
  exit_ready n cpu o (Some x) h = absurd (not_so (started plan m (at_place n) cpu callback.EvtDeviceD0Exit o (Some x) h))

  pub exit_acked : (n : ℕ) (cpu : Cpu) (o : Handle) (r : Option Handle) → slice_get run n ≡ Some (event.Start cpu callback.EvtDeviceD0Exit o r) → AllAcked plan (take n run) o.id.0
  exit_acked n cpu o r at =
      let S : State A = at_place n in
      let h : may plan m S (event.Start cpu callback.EvtDeviceD0Exit o r) ≡ true = comes plan m run n (event.Start cpu callback.EvtDeviceD0Exit o r) is_run at (λ time e. no_tick cpu callback.EvtDeviceD0Exit o r time e) in
      let start : may_start plan m S cpu.0 callback.EvtDeviceD0Exit o.id.0 r ≡ true = both_right (is_cpu plan cpu && is_proper plan S o && is_proper_if_any plan S r) (may_start plan m S cpu.0 callback.EvtDeviceD0Exit o.id.0 r) h in
      let parts = start_parts plan m S cpu.0 callback.EvtDeviceD0Exit o.id.0 r start in
      let live : is_live (life_of S.tree o.id.0) ≡ true = parts.1 in
      let d : ℕ = nearest_device S.tree o.id.0 in
      let own : d ≡ o.id.0 = own_device_of plan S o.id.0 (known_at n).known.declared (live_there (life_of S.tree o.id.0) live) (declares_device plan callback.EvtDeviceD0Exit (declared_in plan S o.id.0) resolved refl parts.0) in
      let x : Step = step_of plan S callback.EvtDeviceD0Exit o.id.0 in
      let ready_ : step_ready S d x ≡ true = exit_ready n cpu o r h in
      let now : same_option same_step (next_step S.pnp d) (Some x) ≡ true = both_left (same_option same_step (next_step S.pnp d) (Some x)) (not (is_running_step S.pnp d)) (both_left (same_option same_step (next_step S.pnp d) (Some x) && not (is_running_step S.pnp d)) _ ready_) in
      let j : Option Handle = interrupt_of_step plan S o.id.0 in
      let left : steps_left S.pnp d ≡ step.Run callback.EvtDeviceD0Exit j ∷ drop 1 (steps_left S.pnp d) = found_run (steps_left S.pnp d) callback.EvtDeviceD0Exit j now in
      let k = (settles_at n).course d in
      let settled : k.way.settled ≡ true = both_left k.way.settled (fits (drop 1 (steps_left S.pnp d)) (next (step.Run callback.EvtDeviceD0Exit j) k.way)) (subst (λ ss. fits ss k.way ≡ true) left k.fits) in
      subst (AllAcked plan (take n run)) own (k.settled settled).0

-- ---- the law

acknowledged_by : (a b c : Bool) → (a ≡ true → b ≡ true → c ≡ true) → (not a || not b || c) ≡ true
acknowledged_by true true c h = h refl refl
acknowledged_by true false c h = refl
acknowledged_by false b c h = refl

taking_acked : (plan : Plan) (es : List Event) (d : ℕ) → AllAcked plan es d → (x : Option Taking) → is_acknowledged plan es d x ≡ true
taking_acked plan es d k None = refl
taking_acked plan es d k (Some t) =
    acknowledged_by (is_managed_of d (queue_of plan t.queue)) (stands (sign.TakingFrom t.request t.queue) (sign.GivingUp t.request) es) (followed (sign.QueuesDown d) (sign.Acknowledgement t.request) es)
    (λ of held. k t.request t.queue of held)

each_acked : (plan : Plan) (es : List Event) (d : ℕ) → AllAcked plan es d → (xs : List Event) → list_all (is_acknowledged_at plan es d) xs ≡ true
each_acked plan es d k [] = refl
each_acked plan es d k (e ∷ xs) = both (is_acknowledged_at plan es d e) (list_all (is_acknowledged_at plan es d) xs) (taking_acked plan es d k (taken e)) (each_acked plan es d k xs)

module _ {A : Type 0} (plan : Plan) (m : Meaning A) (run : List Event) (k : ℕ) (resolved : IsResolved plan) (is_run : IsRunOf plan m run) where
  pub settled_at_each : (device : Handle) (j : Option Handle) → slice_get run k ≡ Some (event.Stage device stage.Settled j) → all_acknowledged plan (take k run) (Some device.id.0) ≡ true
  settled_at_each device j at = each_acked plan (take k run) device.id.0 (settled_acked plan m run resolved is_run k device j at) (take k run)

  pub exit_at_each : (cpu : Cpu) (o : Handle) (r : Option Handle) → slice_get run k ≡ Some (event.Start cpu callback.EvtDeviceD0Exit o r) → all_acknowledged plan (take k run) (Some o.id.0) ≡ true
  exit_at_each cpu o r at = each_acked plan (take k run) o.id.0 (exit_acked plan m run resolved is_run k cpu o r at) (take k run)

  starts_by : (cpu : Cpu) (c : Callback) (o : Handle) (r : Option Handle) (b : Bool) → same_callback c callback.EvtDeviceD0Exit ≡ b → slice_get run k ≡ Some (event.Start cpu c o r) → all_acknowledged plan (take k run) (where_so b (Some o.id.0)) ≡ true
  starts_by cpu c o r true is at = exit_at_each cpu o r (at ∙ ap (λ x. Some (event.Start cpu x o r)) ((callback_decides c callback.EvtDeviceD0Exit).0 is))
  starts_by cpu c o r false is at = refl

  stages_by : (device : Handle) (s : Stage) (j : Option Handle) → slice_get run k ≡ Some (event.Stage device s j) → law_6 plan (take k run) (event.Stage device s j) ≡ true
  stages_by device stage.Settled j at = both (all_acknowledged plan (take k run) (Some device.id.0)) true (settled_at_each device j at) refl
  stages_by device s j at = refl

  law_by : (e : Event) → slice_get run k ≡ Some e → law_6 plan (take k run) e ≡ true
  law_by (event.Start cpu c o r) at = starts_by cpu c o r (same_callback c callback.EvtDeviceD0Exit) refl at
  law_by (event.Stage device s j) at = stages_by device s j at
  law_by e at = refl

pub settled_after : {A : Type 0} (plan : Plan) (m : Meaning A) (run : List Event) (k : ℕ) (device : Handle) (j : Option Handle) → IsResolved plan → IsRunOf plan m run → slice_get run k ≡ Some (event.Stage device stage.Settled j)
    → all_acknowledged plan (take k run) (Some device.id.0) ≡ true
settled_after plan m run k device j resolved is_run at = settled_at_each plan m run k resolved is_run device j at

pub exit_after : {A : Type 0} (plan : Plan) (m : Meaning A) (run : List Event) (k : ℕ) (cpu : Cpu) (o : Handle) (r : Option Handle) → IsResolved plan → IsRunOf plan m run → slice_get run k ≡ Some (event.Start cpu callback.EvtDeviceD0Exit o r)
    → all_acknowledged plan (take k run) (Some o.id.0) ≡ true
exit_after plan m run k cpu o r resolved is_run at = exit_at_each plan m run k resolved is_run cpu o r at

pub law_6_at_each : {A : Type 0} (plan : Plan) (m : Meaning A) (run : List Event) (k : ℕ) (e : Event) → IsResolved plan → IsRunOf plan m run → slice_get run k ≡ Some e → law_6 plan (take k run) e ≡ true
law_6_at_each plan m run k e resolved is_run at = law_by plan m run k resolved is_run e at
