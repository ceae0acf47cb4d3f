-- A request that is acknowledged in the state was acknowledged after the last `queues_down` of its device, and the queues of
-- the device are down.
use Rattle.std.proofs.Common.{◌≡◌, ℕ, ◌==◌, Bool, true, false, not, ◌&&◌, ◌||◌, List, [], ◌∷◌, ◌++◌, inl, inr, Option, Some, None, refl, sym, ap, subst, ◌∙◌}
use Rattle.std.proofs.lemmas.Bool.{eqb-true, false_from_ne_true}
use Rattle.wdf_base.specs.Meaning.{Meaning}
use Rattle.wdf_base.specs.declared.ids.Cpu.{Cpu}
use Rattle.wdf_base.specs.declared.ids.Handle.{Handle}
use Rattle.wdf_base.specs.declared.plan.Plan.{Plan}
use Rattle.wdf_base.specs.declared.value.Value.{Value}
use Rattle.wdf_base.specs.declared.call.Arg.{Arg}
use Rattle.wdf_base.specs.declared.call.Arg.TheVariants.{Val}
use Rattle.wdf_base.specs.declared.value.Value.TheVariants.{Obj}
use Rattle.wdf_base.specs.declared.call.Call.{Call}
use Rattle.wdf_base.specs.declared.call.CallKind.TheVariants as call
use Rattle.wdf_base.specs.declared.call.Callback.TheVariants as callback
use Rattle.wdf_base.specs.declared.event.Event.{Event}
use Rattle.wdf_base.specs.declared.event.Event.TheVariants as event
use Rattle.wdf_base.specs.declared.event.Fault.TheVariants as fault
use Rattle.wdf_base.specs.declared.event.Stage.{Stage}
use Rattle.wdf_base.specs.declared.event.Stage.TheVariants as stage
use Rattle.wdf_base.specs.Same.{same_call_kind, same_callback}
use Rattle.wdf_model.specs.Tables.{same_id}
use Rattle.wdf_model.specs.Plans.{queue_of}
use Rattle.wdf_model.specs.parts.Cpus.{frame_of}
use Rattle.wdf_model.specs.parts.Requests.{origin_of}
use Rattle.wdf_model.specs.parts.Power.{advance_stage, holding_of}
use Rattle.wdf_model.specs.State.{State, object_in}
use Rattle.wdf_model.specs.rules.Faults.{View, is_handle_of, is_stop_of}
use Rattle.wdf_base.specs.Values.{arg_is}
use Rattle.wdf_model.specs.rules.Steps.{may, view_of}
use Rattle.law_machine_base.proofs.OwnEvents.{IsDid, did_tells}
use Rattle.wdf_model.proofs.Tests.{both_left, both_right, itself}
use Rattle.wdf_model.proofs.Counts.{one_or_two}
use Rattle.law_machine_lives.proofs.SoundEvents.{top_on}
use Rattle.wdf_laws.specs.declared.sign.Sign.TheVariants as sign
use Rattle.wdf_laws.specs.Events.{argument_object, is_id, where_so}
use Rattle.wdf_laws.specs.Laws.{is_managed_of}
use Rattle.wdf_laws.specs.Signs.{shows}
use Rattle.wdf_laws.specs.Words.{ever, followed, stands}
use Rattle.law_trace_requests.proofs.Cancels.{stands_next}
use Rattle.law_trace_held.proofs.Holdings.{noted}
use Rattle.law_trace_held.proofs.StillAcked.{AckStep, is_acked}
use Rattle.law_trace_settled.proofs.Course.{Course, followed_now, followed_on, not_shown, up_by, up_here, up_in, up_there}
use Rattle.law_trace_settled.proofs.Moves.{Asked, Begun, Ended, Moved, Passed, Unmoved}
use Rattle.law_trace_settled.proofs.Never.{not_so, not_such}
use Rattle.law_trace_settled.proofs.Queues.{is_of}
use Rattle.law_trace_settled.proofs.Stops.{IsNext, StopFrames, StopsAt, is_down}

abbrev pub AckedDown : {A : Type 0} → Plan → State A → List Event → Type 0
AckedDown plan S es = (x : ℕ) → is_acked (holding_of S.power x) ≡ true → (d : ℕ) → is_managed_of d (queue_of plan (noted S.power x)) ≡ true
    → (followed (sign.QueuesDown d) (sign.Acknowledgement x) es ≡ true) × (up_in S.power.devices d ≡ false)

-- ---- an acknowledgement is no stage

not_both_up : (e : Event) (d x : ℕ) → shows (sign.QueuesUp d) e ≡ true → shows (sign.Acknowledgement x) e ≡ true → ⊥
not_both_up (event.Did cpu c v) d x u a = not_so u
not_both_up e d x u a = not_so a

not_both_down : (e : Event) (d x : ℕ) → shows (sign.QueuesDown d) e ≡ true → shows (sign.Acknowledgement x) e ≡ true → ⊥
not_both_down (event.Did cpu c v) d x u a = not_so u
not_both_down e d x u a = not_so a

-- ---- the queues of a device stay down

module _ {A : Type 0} (plan : Plan) (S U : State A) (e : Event) (d : ℕ) (low : up_in S.power.devices d ≡ false) (rise : shows (sign.QueuesUp d) e ≡ false) (fall : shows (sign.QueuesDown d) e ≡ true → up_in S.power.devices d ≡ true) where
  at_stage : (n : Handle) (s : Stage) (j : Option Handle) → d ≡ n.id.0 → shows (sign.QueuesUp d) (event.Stage n s j) ≡ false → (shows (sign.QueuesDown d) (event.Stage n s j) ≡ true → up_in S.power.devices d ≡ true)
      → (shows (sign.QueuesDown d) (event.Stage n s j) ≡ false) × (up_by s (up_in S.power.devices d) ≡ false)
  at_stage n stage.QueuesUp j x r f = absurd (not_such (sym (ap (λ y. n.id.0 == y) x ∙ itself n.id.0) ∙ r))
  at_stage n stage.QueuesDown j x r f = absurd (not_such (sym (f (ap (λ y. n.id.0 == y) x ∙ itself n.id.0)) ∙ low))
  at_stage n _ j x r f = (refl, low)

  still_down : Moved plan S U e → (shows (sign.QueuesDown d) e ≡ false) × (up_in U.power.devices d ≡ false)
  still_down (Unmoved quiet_ same devices) = ((quiet_ d).1, ap (λ D. up_in D d) devices ∙ low)
  still_down (Begun n c j quiet_ idle next_ same devices) = ((quiet_ d).1, ap (λ D. up_in D d) devices ∙ low)
  still_down (Ended n c j l v quiet_ runs same devices) = ((quiet_ d).1, ap (λ D. up_in D d) devices ∙ low)
  still_down (Asked n a quiet_ free same devices) = ((quiet_ d).1, ap (λ D. up_in D d) devices ∙ low)
  still_down (Passed n s j is may_come idle next_ same devices) = elim (one_or_two d n.id.0) [
    | inr x ↦ (ap (shows (sign.QueuesDown d)) is ∙ (not_shown n s j d x).1, ap (λ D. up_in D d) devices ∙ up_there S.power n.id.0 s d x ∙ low)
    | inl x ↦
        let t = at_stage n s j x (sym (ap (shows (sign.QueuesUp d)) is) ∙ rise) (λ f. fall (ap (shows (sign.QueuesDown d)) is ∙ f)) in
        (ap (shows (sign.QueuesDown d)) is ∙ t.0, ap (λ D. up_in D d) devices ∙ ap (λ y. up_in (advance_stage S.power n.id.0 s).devices y) x ∙ up_here S.power n.id.0 s ∙ ap (λ y. up_by s (up_in S.power.devices y)) (sym x) ∙ t.1)
  ]

-- ---- an acknowledgement comes between `queues_down` and `settled`

where_true : (b : Bool) (o : Option ℕ) (x : ℕ) → is_id x (where_so b o) ≡ true → (b ≡ true) × (is_id x o ≡ true)
where_true true o x h = (refl, h)
where_true false o x h = absurd (let z : ⊥ = cc in z)

named : (a : Arg) (x : ℕ) → is_id x (argument_object a) ≡ true → object_in a ≡ x
named (Val (Obj h)) x e = eqb-true h.id.0 x e
named _ x e = absurd (let z : ⊥ = cc in z)

same_origin : (o : Option ℕ) (q p : ℕ) → same_id o q ≡ true → same_id o p ≡ true → p ≡ q
same_origin None q p h k = absurd (let z : ⊥ = cc in z)
same_origin (Some x) q p h k = sym (eqb-true x p k) ∙ eqb-true x q h

stop_by : (a b c : Bool) → a ≡ true → (a && (not b || c)) ≡ false → b ≡ true
stop_by true true c h k = refl
stop_by true false c h k = absurd (let z : ⊥ = cc in z)
stop_by false b c h k = absurd (let z : ⊥ = cc in z)

module _ {A : Type 0} (plan : Plan) (m : Meaning A) (S : State A) (es : List Event) (k : Course plan S.pnp S.power.devices es) (stops : StopFrames plan S.cpus S.pnp) (x q d : ℕ)
    (from : same_id (origin_of S.requests x) q ≡ true) (of : is_managed_of d (queue_of plan q) ≡ true) where
  did_first : (cpu : Cpu) (c : Call) (v : Value) → may plan m S (event.Did cpu c v) ≡ true → shows (sign.Acknowledgement x) (event.Did cpu c v) ≡ true → (ever (sign.QueuesDown d) es ≡ true) × (up_in S.power.devices d ≡ false)
  did_first cpu c v h t =
      let is : IsDid plan S cpu.0 c v = did_tells plan m S cpu c v h in
      let f : ℕ = is.frame in
      let view : View = view_of plan S cpu.0 f in
      let told = where_true (same_call_kind c.kind call.WdfRequestStopAcknowledge && arg_is c.b 0) (argument_object c.a) x t in
      let object : object_in c.a ≡ x = named c.a x told.1 in
      let kind_is : same_call_kind c.kind call.WdfRequestStopAcknowledge ≡ true = both_left (same_call_kind c.kind call.WdfRequestStopAcknowledge) (arg_is c.b 0) told.0 in
      let stop : is_stop_of view (object_in c.a) ≡ true = stop_by (same_call_kind c.kind call.WdfRequestStopAcknowledge) (is_stop_of view (object_in c.a)) (view.acknowledged (object_in c.a)) kind_is (is.about.clean fault.AckOutsideStop) in
      let calls : same_callback (frame_of S.cpus f).callback callback.EvtIoStop ≡ true
      = both_left (same_callback (frame_of S.cpus f).callback callback.EvtIoStop) (is_handle_of (frame_of S.cpus f).request (object_in c.a)) (both_left (same_callback (frame_of S.cpus f).callback callback.EvtIoStop && is_handle_of (frame_of S.cpus f).request (object_in c.a)) (same_id (origin_of S.requests (object_in c.a)) (frame_of S.cpus f).object.id.0) stop) in
      let origin : same_id (origin_of S.requests x) (frame_of S.cpus f).object.id.0 ≡ true
      = subst (λ y. same_id (origin_of S.requests y) (frame_of S.cpus f).object.id.0 ≡ true) object (both_right (same_callback (frame_of S.cpus f).callback callback.EvtIoStop && is_handle_of (frame_of S.cpus f).request (object_in c.a)) (same_id (origin_of S.requests (object_in c.a)) (frame_of S.cpus f).object.id.0) stop) in
      let at : (frame_of S.cpus f).object.id.0 ≡ q = same_origin (origin_of S.requests x) q (frame_of S.cpus f).object.id.0 from origin in
      let a : StopsAt plan S.pnp (frame_of S.cpus f) = stops f (top_on S.cpus cpu.0 f is.about.top) calls in
      let own : is_managed_of (frame_of S.cpus f).device.id.0 (queue_of plan q) ≡ true = subst (λ y. is_managed_of (frame_of S.cpus f).device.id.0 (queue_of plan y) ≡ true) at a.managed in
      let device : (frame_of S.cpus f).device.id.0 ≡ d = sym (is_of plan (frame_of S.cpus f).device.id.0 q own).1 ∙ (is_of plan d q of).1 in
      let n = subst (λ y. IsNext S.pnp y) device a.next in
      (k d).down (is_down plan S.pnp S.power.devices es d k n)

  ack_first : (e : Event) → may plan m S e ≡ true → shows (sign.Acknowledgement x) e ≡ true → (ever (sign.QueuesDown d) es ≡ true) × (up_in S.power.devices d ≡ false)
  ack_first (event.Did cpu c v) h t = did_first cpu c v h t
  ack_first e h t = absurd (not_so t)

-- ---- one event

risen : (p s q : Bool) → q ≡ true → (p || (s && not q)) ≡ true → p ≡ true
risen true s q h k = refl
risen false true true h k = absurd (let z : ⊥ = cc in z)
risen false false true h k = absurd (let z : ⊥ = cc in z)
risen false s false h k = absurd (let z : ⊥ = cc in z)

module _ {A : Type 0} (plan : Plan) (m : Meaning A) (S U : State A) (es : List Event) (e : Event) (k : Course plan S.pnp S.power.devices es) (stops : StopFrames plan S.cpus S.pnp) (moved : Moved plan S U e) (acked : AckedDown plan S es)
    (falls : (d : ℕ) → shows (sign.QueuesDown d) e ≡ true → up_in S.power.devices d ≡ true)
    (since : (x : ℕ) → is_acked (holding_of U.power x) ≡ true → (d : ℕ) → is_managed_of d (queue_of plan (noted U.power x)) ≡ true → stands (sign.Acknowledgement x) (sign.QueuesUp d) (es ++ e ∷ []) ≡ true)
    (origins : (x q d : ℕ) → is_acked (holding_of U.power x) ≡ true → is_managed_of d (queue_of plan q) ≡ true → noted U.power x ≡ q → shows (sign.Acknowledgement x) e ≡ true → same_id (origin_of S.requests x) q ≡ true)
    (comes_ : (x : ℕ) → shows (sign.Acknowledgement x) e ≡ true → may plan m S e ≡ true) where
  no_rise : (x : ℕ) → is_acked (holding_of U.power x) ≡ true → (d : ℕ) → is_managed_of d (queue_of plan (noted U.power x)) ≡ true → shows (sign.QueuesUp d) e ≡ false
  no_rise x t d of = false_from_ne_true (shows (sign.QueuesUp d) e) (λ u.
      not_both_up e d x u (risen (shows (sign.Acknowledgement x) e) (stands (sign.Acknowledgement x) (sign.QueuesUp d) es) (shows (sign.QueuesUp d) e) u (sym (stands_next (sign.Acknowledgement x) (sign.QueuesUp d) es e) ∙ since x t d of)))

  pub acked_after : AckStep e S.power U.power → AckedDown plan U (es ++ e ∷ [])
  acked_after step x t d of = elim (step x t) [
    | inl y ↦
        let old = acked x y.0 d (subst (λ q. is_managed_of d (queue_of plan q) ≡ true) y.1 of) in
        let s = still_down plan S U e d old.1 (no_rise x t d of) (falls d) moved in
        (followed_on (sign.QueuesDown d) (sign.Acknowledgement x) es e s.0 old.0, s.1)
    | inr y ↦
        let now = ack_first plan m S es k stops x (noted U.power x) d (origins x (noted U.power x) d t of refl y) of e (comes_ x y) y in
        let s = still_down plan S U e d now.1 (no_rise x t d of) (falls d) moved in
        (followed_now (sign.QueuesDown d) (sign.Acknowledgement x) es e s.0 y now.0, s.1)
  ]
