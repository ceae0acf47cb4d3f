-- A request is taken from a power-managed queue only while the queues of its device are up.
use Rattle.std.proofs.Common.{if◌then◌else◌, ◌≡◌, ℕ, ◌==◌, Bool, true, false, not, ◌&&◌, ◌||◌, inl, inr, Option, Some, None, refl, sym, ap, subst}
use Rattle.std.proofs.lemmas.Bool.{eqb-true, or_cases}
use Rattle.wdf_base.specs.Meaning.{Meaning}
use Rattle.wdf_base.specs.declared.ids.Cpu.{Cpu}
use Rattle.wdf_base.specs.declared.ids.Handle.{Handle}
use Rattle.wdf_base.specs.declared.plan.Plan.{Plan}
use Rattle.wdf_base.specs.declared.value.Value.{Value}
use Rattle.wdf_base.specs.declared.value.Value.TheVariants.{Num, Obj, Stat}
use Rattle.wdf_base.specs.declared.value.Status.TheVariants as status
use Rattle.wdf_base.specs.declared.rank.Rank.{Rank}
use Rattle.wdf_base.specs.declared.rank.Rank.TheVariants as rank
use Rattle.wdf_base.specs.declared.call.Arg.{Arg}
use Rattle.wdf_base.specs.declared.call.Arg.TheVariants.{Val}
use Rattle.wdf_base.specs.declared.call.CallKind.{CallKind}
use Rattle.wdf_base.specs.declared.call.CallKind.TheVariants as call
use Rattle.wdf_base.specs.declared.call.Callback.{Callback}
use Rattle.wdf_base.specs.declared.call.Callback.TheVariants as callback
use Rattle.wdf_base.specs.declared.event.Event.{Event}
use Rattle.wdf_base.specs.declared.event.Event.TheVariants as event
use Rattle.wdf_base.specs.Callbacks.{row_of}
use Rattle.wdf_base.specs.Same.{same_call_kind, same_callback, same_option}
use Rattle.wdf_model.specs.Tables.{same_id}
use Rattle.wdf_model.specs.Plans.{device_of_queue, handler_for, is_managed, is_manual_queue, is_parallel_queue, queue_of}
use Rattle.wdf_model.specs.parts.Control.{delivers_in, mode_of}
use Rattle.wdf_model.specs.parts.Queues.{front, is_free}
use Rattle.wdf_model.specs.parts.Requests.{info_of}
use Rattle.wdf_model.specs.State.{State, is_powered, object_in, queue_delivers}
use Rattle.wdf_model.specs.rules.Calls.{outcome, refused, retrieve_front, retrieve_outcome}
use Rattle.wdf_model.specs.rules.Starts.{presents, rank_ready_for}
use Rattle.wdf_model.specs.rules.Steps.{may}
use Rattle.law_machine_base.proofs.OwnEvents.{did_tells}
use Rattle.wdf_model.proofs.Sames.{callback_decides}
use Rattle.wdf_model.proofs.Tests.{both_left, both_right}
use Rattle.wdf_laws.specs.Events.{argument_object, id_in, is_handler, pair_of, taken, value_object, where_so}
use Rattle.wdf_laws.specs.Laws.{is_managed_of}
use Rattle.wdf_laws.specs.Signs.{is_taking_of}
use Rattle.law_trace_requests.proofs.CancelsOverRuns.{started}
use Rattle.law_trace_settled.proofs.Course.{TakesUp, up_in}
use Rattle.law_trace_settled.proofs.Never.{not_so}
use Rattle.law_trace_settled.proofs.Queues.{is_of}
use Rattle.law_trace_settled.proofs.ReturnsUp.{ReturnsUp}

-- ---- what a taking says

taking_of : (b : Bool) (x y : Option ℕ) (r q : ℕ) → is_taking_of r q (pair_of (where_so b x) y) ≡ true → (b ≡ true) × (y ≡ Some q)
taking_of false x y r q h = absurd (let z : ⊥ = cc in z)
taking_of true None y r q h = absurd (let z : ⊥ = cc in z)
taking_of true (Some i) None r q h = absurd (let z : ⊥ = cc in z)
taking_of true (Some i) (Some p) r q h = (refl, ap Some (eqb-true p q (both_right (i == r) (p == q) h)))

same_some : (x y : ℕ) → Some x ≡ Some y → x ≡ y
same_some x y h = let z : x ≡ y = cc in z

handler_is : (x : Rank) → is_handler x ≡ true → x ≡ rank.Handler
handler_is rank.Handler h = refl
handler_is _ h = absurd (let z : ⊥ = cc in z)

module _ {A : Type 0} (plan : Plan) (m : Meaning A) (S : State A) (returns : ReturnsUp plan S) (r q d : ℕ) (of : is_managed_of d (queue_of plan q) ≡ true) where
  up_where : is_powered plan S q ≡ true → up_in S.power.devices d ≡ true
  up_where h =
      let parts = is_of plan d q of in
      let t : (not (is_managed plan q) || up_in S.power.devices (device_of_queue plan q)) ≡ true = h in
      let u : up_in S.power.devices (device_of_queue plan q) ≡ true = rw parts.0 at t in
      subst (λ y. up_in S.power.devices y ≡ true) parts.1 u

  delivers_powered : (p : ℕ) → queue_delivers plan S p ≡ true → is_powered plan S p ≡ true
  delivers_powered p h = both_right (delivers_in (mode_of S.control p)) (is_powered plan S p) h

  -- ---- starts

  presents_delivers : (c : Callback) (p x : ℕ) → presents plan S c p x ≡ true → queue_delivers plan S p ≡ true
  presents_delivers c p x h =
      let e : Bool = not (is_manual_queue plan p) && queue_delivers plan S p in
      let f : Bool = same_id (front S.queues p) x in
      both_right (not (is_manual_queue plan p)) (queue_delivers plan S p) (both_left e (is_free S.queues p) (both_left (e && is_free S.queues p) f (both_left (e && is_free S.queues p && f) (same_option same_callback (handler_for plan p (info_of S.requests x).form) (Some c)) h)))

  starts_powered : (cpu : Cpu) (c : Callback) (o x : Handle) → may plan m S (event.Start cpu c o (Some x)) ≡ true → (is_handler (row_of c).rank || same_callback c callback.EvtIoCanceledOnQueue) ≡ true → is_powered plan S o.id.0 ≡ true
  starts_powered cpu c o x h told = elim (or_cases (is_handler (row_of c).rank) (same_callback c callback.EvtIoCanceledOnQueue) told) [
    | inl y ↦
        let ready_ : rank_ready_for plan S rank.Handler c o.id.0 x.id.0 ≡ true = subst (λ k. rank_ready_for plan S k c o.id.0 x.id.0 ≡ true) (handler_is (row_of c).rank y) (started plan m S cpu c o (Some x) h) in
        delivers_powered o.id.0 (presents_delivers c o.id.0 x.id.0 ready_)
    | inr y ↦
        let is : c ≡ callback.EvtIoCanceledOnQueue = (callback_decides c callback.EvtIoCanceledOnQueue).0 y in
        returns x.id.0 o.id.0 (subst (λ k. rank_ready_for plan S (row_of k).rank k o.id.0 x.id.0 ≡ true) is (started plan m S cpu c o (Some x) h))
  ]

  starts_take : (cpu : Cpu) (c : Callback) (o : Handle) (x : Option Handle) → may plan m S (event.Start cpu c o x) ≡ true → is_taking_of r q (pair_of (where_so (is_handler (row_of c).rank || same_callback c callback.EvtIoCanceledOnQueue) (id_in x)) (Some o.id.0)) ≡ true
      → up_in S.power.devices d ≡ true
  starts_take cpu c o None h t = absurd (none_taken (is_handler (row_of c).rank || same_callback c callback.EvtIoCanceledOnQueue) t)
    where
      none_taken : (b : Bool) → is_taking_of r q (pair_of (where_so b None) (Some o.id.0)) ≡ true → ⊥
      none_taken true h = not_so h
      none_taken false h = not_so h
  starts_take cpu c o (Some x) h t =
      let parts = taking_of (is_handler (row_of c).rank || same_callback c callback.EvtIoCanceledOnQueue) (Some x.id.0) (Some o.id.0) r q t in
      up_where (subst (λ y. is_powered plan S y ≡ true) (same_some o.id.0 q parts.1) (starts_powered cpu c o x h parts.0))

  -- ---- calls

  front_answers : (p : ℕ) (x : Option ℕ) (b c : Bool) (g : Handle) → (if b then refused status.InvalidDeviceState else if not c then refused status.WdfPaused else retrieve_front plan S p x).answer ≡ Obj g → c ≡ true
  front_answers p x true c g h = absurd (let z : ⊥ = cc in z)
  front_answers p x false true g h = refl
  front_answers p x false false g h = absurd (let z : ⊥ = cc in z)

  retrieves : (a : Arg) (v : Value) → v ≡ (retrieve_outcome plan S (object_in a)).answer → is_taking_of r q (pair_of (value_object v) (argument_object a)) ≡ true → up_in S.power.devices d ≡ true
  retrieves a (Num n) h t = absurd (not_so t)
  retrieves a (Stat s) h t = absurd (not_so t)
  retrieves (Val (Obj p)) (Obj g) h t =
      let same : p.id.0 ≡ q = eqb-true p.id.0 q (both_right (g.id.0 == r) (p.id.0 == q) t) in
      let powered : is_powered plan S p.id.0 ≡ true = delivers_powered p.id.0 (front_answers p.id.0 (front S.queues p.id.0) (is_parallel_queue plan p.id.0) (queue_delivers plan S p.id.0) g (sym h)) in
      up_where (subst (λ y. is_powered plan S y ≡ true) same powered)
  retrieves _ (Obj g) h t = absurd (not_so t)

  calls_take : (cpu f : ℕ) (x : CallKind) (n : ℕ) (a b c : Arg) (v : Value) → v ≡ (outcome plan S cpu f (record { kind = x; count = n; a = a; b = b; c = c })).answer
      → is_taking_of r q (pair_of (where_so (same_call_kind x call.WdfIoQueueRetrieveNextRequest) (value_object v)) (argument_object a)) ≡ true → up_in S.power.devices d ≡ true
  calls_take cpu f call.WdfIoQueueRetrieveNextRequest n a b c v h t = retrieves a v h t
  calls_take cpu f _ n a b c v h t = absurd (not_so t)

  takes_by : (e : Event) → may plan m S e ≡ true → is_taking_of r q (taken e) ≡ true → up_in S.power.devices d ≡ true
  takes_by (event.Start cpu c o x) h t = starts_take cpu c o x h t
  takes_by (event.Did cpu c v) h t = let k = did_tells plan m S cpu c v h in calls_take cpu.0 k.frame c.kind c.count c.a c.b c.c v k.answer t
  takes_by e h t = absurd (not_so t)

pub takes_up : {A : Type 0} (plan : Plan) (m : Meaning A) (S : State A) (e : Event) → ReturnsUp plan S → may plan m S e ≡ true → TakesUp plan S.power.devices e
takes_up plan m S e returns h r q d of t = takes_by plan m S returns r q d of e h t
