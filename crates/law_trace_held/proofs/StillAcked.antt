-- A request is acknowledged, after an event, only where it was before, held from the same queue, or where the event
-- acknowledges it.
use Rattle.std.proofs.Common.{if◌then◌else◌, ◌≡◌, ℕ, ◌+◌, Bool, true, false, not, ◌&&◌, ◌||◌, List, [], ◌∷◌, ◌++◌, ◌⊎◌, inl, inr, Option, Some, None, refl, sym, ap, subst, ◌∙◌}
use Rattle.wdf_base.specs.Meaning.{Meaning}
use Rattle.wdf_base.specs.declared.ids.Cpu.{Cpu}
use Rattle.wdf_base.specs.declared.ids.Handle.{Handle}
use Rattle.wdf_base.specs.declared.plan.Plan.{Plan}
use Rattle.wdf_base.specs.declared.rank.Rank.{Rank}
use Rattle.wdf_base.specs.declared.rank.Rank.TheVariants as rank
use Rattle.wdf_base.specs.declared.value.Value.{Value}
use Rattle.wdf_base.specs.declared.value.Status.TheVariants as status
use Rattle.wdf_base.specs.declared.call.Arg.{Arg}
use Rattle.wdf_base.specs.declared.call.Call.{Call}
use Rattle.wdf_base.specs.declared.call.CallKind.{CallKind}
use Rattle.wdf_base.specs.declared.call.CallKind.TheVariants as call
use Rattle.wdf_base.specs.declared.call.Callback.{Callback}
use Rattle.wdf_base.specs.declared.event.Event.{Event}
use Rattle.wdf_base.specs.declared.event.Event.TheVariants as event
use Rattle.wdf_base.specs.declared.event.Fault.TheVariants as fault
use Rattle.wdf_base.specs.declared.event.Stage.{Stage}
use Rattle.wdf_base.specs.declared.event.Stage.TheVariants as stage
use Rattle.wdf_base.specs.declared.event.Step.{Step}
use Rattle.wdf_base.specs.declared.event.Step.TheVariants as step
use Rattle.wdf_base.specs.Callbacks.{row_of}
use Rattle.wdf_model.specs.declared.entries.Holding.{Holding}
use Rattle.wdf_model.specs.Plans.{callback_irql, is_managed, is_parallel_queue}
use Rattle.wdf_model.specs.parts.Control.{accepts, is_purged, mode_of}
use Rattle.wdf_model.specs.parts.Locks.{lock_of_callback}
use Rattle.wdf_model.specs.parts.Queues.{front}
use Rattle.wdf_model.specs.parts.Requests.{is_cancelled}
use Rattle.wdf_model.specs.parts.Power.{Power, acknowledged, advance_stage, holding_of, is_held, is_held_at, no_holding, wake_holdings, with_up, woken}
use Rattle.wdf_model.specs.parts.Power as power
use Rattle.wdf_model.specs.State.{State, declared_in, object_in, queue_delivers}
use Rattle.wdf_model.specs.Ids.{frame_id, irql_of, object_id}
use Rattle.wdf_model.specs.declared.deed.Deed.{Deed}
use Rattle.wdf_model.specs.declared.deed.Deed.TheVariants.{PushFrame, Acknowledge, AdvancePower, AskStop, GiveBack, Requeue, Resume}
use Rattle.wdf_model.specs.rules.Deeds.{do_deed, do_deeds}
use Rattle.wdf_base.specs.Values.{arg_is}
use Rattle.wdf_model.specs.rules.Calls.{forwards_nowhere, may_send, origin_or_none, outcome, refused, retrieve_front, success}
use Rattle.wdf_model.specs.rules.Starts.{effect, effect_for, new_frame, next_number, take_if_any}
use Rattle.wdf_model.specs.rules.Steps.{after, deeds, may, view_of}
use Rattle.law_machine_base.specs.FactsOfEvents.{IsTick}
use Rattle.wdf_model.proofs.Maps.{entry_map}
use Rattle.wdf_model.proofs.Tests.{both_left, both_right, itself, not_true}
use Rattle.wdf_model.proofs.Counts.{one_or_two}
use Rattle.law_machine_base.proofs.Fits.{wrong_kind_of_first}
use Rattle.law_machine_base.proofs.FitsOfCalls.{Clean}
use Rattle.law_machine_base.proofs.OwnEvents.{IsDid, IsWaiting, IsWoke, did_tells, waiting_tells, woke_tells}
use Rattle.law_machine_counts.proofs.Releases.{holding_elsewhere}
use Rattle.wdf_laws.specs.declared.sign.Sign.TheVariants as sign
use Rattle.wdf_laws.specs.Events.{argument_object, is_id, where_so}
use Rattle.wdf_laws.specs.Signs.{shows}
use Rattle.law_trace_requests.proofs.Cancels.{named}
use Rattle.law_trace_requests.proofs.FirstParts.{did_after, start_reads, waiting_after, woke_after}
use Rattle.law_machine_lives.proofs.ReasonsOfCalls.{call_of}
use Rattle.law_trace_held.proofs.Holdings.{is_holding, none_holds, noted}
use Rattle.law_trace_held.proofs.HeldByCalls.{call_power}
use Rattle.law_trace_held.proofs.HoldingsOverRuns.{event_none, is_plain, waits_holding}
use Rattle.law_trace_held.proofs.StillSuch.{Advances, By, Still, StillSuch, deed_still, effect_still, forwards_still, gives_still, sends_still, still_completed, still_one, still_power, still_same, still_then}

-- ---- one request

abbrev kept : Bool → Bool
kept b = b

-- it is held from a power-managed queue, and acknowledged
abbrev pub is_acked : Holding → Bool
is_acked h = is_held h && h.acknowledged

-- it is acknowledged after a change only where it was before, held from the same queue
abbrev StillAcked : Power → Power → Type 0
StillAcked P O = StillSuch kept P O

-- ---- what deeds make of it

still_held : (P : Power) (r q : ℕ) (b : Bool) → StillAcked P (if b then power.held_more P r q else P)
still_held P r q true = still_one kept P r (λ _. record { queue = record { 0 = q }; acknowledged = false; stop_asked = false; resume_due = false }) (λ h t. absurd (let z : false ≡ true = both_right (is_held (record { queue = record { 0 = q }; acknowledged = false; stop_asked = false; resume_due = false })) false t in let y : ⊥ = cc in y))
still_held P r q false = still_power kept P P refl

woken_one : (P : Power) (d : ℕ) (h : Holding) (b : Bool) → is_held_at P d h ≡ b → Still kept h (woken P d h)
woken_one P d h true e t = absurd (let u : is_acked (woken P d h) ≡ true = t in let v : (is_held h && false) ≡ true = rw e at u in let z : false ≡ true = both_right (is_held h) false v in let y : ⊥ = cc in y)
woken_one P d h false e t = still_same kept h (woken P d h) (rw e refl) t

still_woken : (P : Power) (d : ℕ) → StillAcked P (wake_holdings P d)
still_woken P d x = subst (λ (k : Holding). Still kept (holding_of P x) k) (sym (entry_map no_holding P.holdings (woken P d) x refl)) (woken_one P d (holding_of P x) (is_held_at P d (holding_of P x)) refl)

still_stage : (P : Power) (d : ℕ) (s : Stage) → StillAcked P (advance_stage P d s)
still_stage P d stage.QueuesUp x = still_woken (with_up P d true) d x
still_stage P d _ x = still_same kept (holding_of P x) (holding_of P x) refl

still_step : (P : Power) (d : ℕ) (s : Step) → StillAcked P (power.advance P d s)
still_step P d (step.Run c i) x = still_same kept (holding_of P x) (holding_of P x) refl
still_step P d (step.Pass s i) x = still_stage P d s x

advances_still : (d : Deed) (P : Power) → Advances kept d P
advances_still (AdvancePower d s) P = still_step P d.0 s
advances_still _ P = tt

deeds_still : {A : Type 0} (plan : Plan) (ds : List Deed) (S : State A) → none_holds ds ≡ true → StillAcked S.power (do_deeds plan ds S).power
deeds_still plan [] S h x = still_power kept S.power S.power refl x
deeds_still plan (d ∷ ds) S h x =
    still_then kept (holding_of S.power x) (holding_of (do_deed plan d S).power x) (holding_of (do_deeds plan ds (do_deed plan d S)).power x)
    (deed_still kept plan d S (not_true (is_holding d) (both_left (not (is_holding d)) (none_holds ds) h)) (advances_still d S.power) x)
    (deeds_still plan ds (do_deed plan d S) (both_right (not (is_holding d)) (none_holds ds) h) x)

-- ---- calls

module _ {A : Type 0} (plan : Plan) (S : State A) where
  front_still : (q : ℕ) (x : Option ℕ) → By kept plan S (retrieve_front plan S q x)
  front_still q None = still_power kept S.power S.power refl
  front_still q (Some r) = still_held S.power r q (is_managed plan q)

  retrieves_still : (q : ℕ) (a b : Bool) (x : Option ℕ) → By kept plan S (if a then refused status.InvalidDeviceState else if b then refused status.WdfPaused else retrieve_front plan S q x)
  retrieves_still q true b x = still_power kept S.power S.power refl
  retrieves_still q false true x = still_power kept S.power S.power refl
  retrieves_still q false false x = front_still q x

-- after an event: it was so before, or the event acknowledges it
abbrev pub AckStep : Event → Power → Power → Type 0
AckStep e P O = (x : ℕ) → is_acked (holding_of O x) ≡ true → ((is_acked (holding_of P x) ≡ true) × (noted O x ≡ noted P x)) ⊎ (shows (sign.Acknowledgement x) e ≡ true)

still_event : (e : Event) (P O : Power) → StillAcked P O → AckStep e P O
still_event e P O s x t = inl (s x t)

module _ {A : Type 0} (plan : Plan) (S : State A) (cpu : Cpu) (f : ℕ) where
  acknowledges : (r : ℕ) (e : Event) → shows (sign.Acknowledgement r) e ≡ true → AckStep e S.power (power.acknowledge S.power r)
  acknowledges r e told x t = elim (one_or_two x r) [
    | inl y ↦ inr (subst (λ z. shows (sign.Acknowledgement z) e ≡ true) (sym y) told)
    | inr n ↦ inl (still_same kept (holding_of S.power x) (holding_of (power.acknowledge S.power r) x) (holding_elsewhere S.power r x (λ h. record h { acknowledged = true }) n) t)
  ]

  stops_acked : (e : Event) (r q : ℕ) (u v : Bool) → (u ≡ true → shows (sign.Acknowledgement r) e ≡ true)
      → AckStep e S.power (do_deeds plan (if u then success (Acknowledge (object_id r) ∷ []) else if v then success (GiveBack (object_id r) (object_id q) ∷ []) else success (Requeue (object_id r) (object_id q) ∷ [])).deeds S).power
  stops_acked e r q true v told = acknowledges r e (told refl)
  stops_acked e r q false v told = still_event e S.power (do_deeds plan (if v then success (GiveBack (object_id r) (object_id q) ∷ []) else success (Requeue (object_id r) (object_id q) ∷ [])).deeds S).power (gives_still kept plan S r q v)

  did_acked : (k : CallKind) (n : ℕ) (a b x : Arg) (v : Value) → Clean plan S cpu.0 f (call_of k n a b x)
      → AckStep (event.Did cpu (call_of k n a b x) v) S.power (do_deeds plan (outcome plan S cpu.0 f (call_of k n a b x)).deeds S).power
  did_acked call.WdfRequestComplete n a b x v clean = still_event (event.Did cpu (call_of call.WdfRequestComplete n a b x) v) S.power (do_deeds plan (outcome plan S cpu.0 f (call_of call.WdfRequestComplete n a b x)).deeds S).power (still_completed kept plan S (object_in a))
  did_acked call.WdfRequestRequeue n a b x v clean = still_event (event.Did cpu (call_of call.WdfRequestRequeue n a b x) v) S.power (do_deeds plan (outcome plan S cpu.0 f (call_of call.WdfRequestRequeue n a b x)).deeds S).power (gives_still kept plan S (object_in a) (origin_or_none S (object_in a)) (is_cancelled S.requests (object_in a) || is_purged (mode_of S.control (origin_or_none S (object_in a)))))
  did_acked call.WdfRequestForwardToIoQueue n a b x v clean =
      still_event (event.Did cpu (call_of call.WdfRequestForwardToIoQueue n a b x) v) S.power (do_deeds plan (outcome plan S cpu.0 f (call_of call.WdfRequestForwardToIoQueue n a b x)).deeds S).power (forwards_still kept plan S (object_in a) (object_in b) (forwards_nowhere plan S (object_in a) (object_in b)) (not (accepts S.control (object_in b))) (is_cancelled S.requests (object_in a)))
  did_acked call.WdfRequestStopAcknowledge n a b x v clean =
      let it = named (view_of plan S cpu.0 f) (call_of call.WdfRequestStopAcknowledge n a b x) refl (wrong_kind_of_first (view_of plan S cpu.0 f) (call_of call.WdfRequestStopAcknowledge n a b x) (clean fault.WrongKind)) in
      stops_acked (event.Did cpu (call_of call.WdfRequestStopAcknowledge n a b x) v) (object_in a) (origin_or_none S (object_in a)) (arg_is b 0)
      (is_cancelled S.requests (object_in a) || is_purged (mode_of S.control (origin_or_none S (object_in a))))
      (λ t. ap (λ u. is_id (object_in a) (where_so u (argument_object a))) t ∙ ap (is_id (object_in a)) it ∙ itself (object_in a))
  did_acked call.WdfRequestSend n a b x v clean = still_event (event.Did cpu (call_of call.WdfRequestSend n a b x) v) S.power (do_deeds plan (outcome plan S cpu.0 f (call_of call.WdfRequestSend n a b x)).deeds S).power (sends_still kept plan S (object_in a) (object_in b) (may_send S (object_in a) (object_in b)) (arg_is x 1))
  did_acked call.WdfIoQueueRetrieveNextRequest n a b x v clean =
      still_event (event.Did cpu (call_of call.WdfIoQueueRetrieveNextRequest n a b x) v) S.power (do_deeds plan (outcome plan S cpu.0 f (call_of call.WdfIoQueueRetrieveNextRequest n a b x)).deeds S).power (retrieves_still plan S (object_in a) (is_parallel_queue plan (object_in a)) (not (queue_delivers plan S (object_in a))) (front S.queues (object_in a)))
  did_acked k n a b x v clean = still_event (event.Did cpu (call_of k n a b x) v) S.power (do_deeds plan (outcome plan S cpu.0 f (call_of k n a b x)).deeds S).power (still_power kept S.power _ (call_power plan S cpu.0 f k n a b x refl))

-- ---- starts

module _ {A : Type 0} (plan : Plan) (S : State A) where
  effect_for_still : (y : Rank) (o r : ℕ) → StillAcked S.power (do_deeds plan (effect_for y o r) S).power
  effect_for_still rank.CanceledOnQueue o r = still_held S.power r o (is_managed plan o)
  effect_for_still rank.Stop o r = deed_still kept plan (AskStop (object_id r)) S refl tt
  effect_for_still rank.Resume o r = deed_still kept plan (Resume (object_id r)) S refl tt
  effect_for_still rank.Handler o r = still_held S.power r o (is_managed plan o)
  effect_for_still _ o r = still_power kept S.power _ refl

  started_still : (cpu : Cpu) (c : Callback) (o : Handle) (r : Option Handle) (ds : List Deed) → StillAcked S.power (do_deeds plan ds S).power
      → StillAcked S.power (do_deeds plan (ds ++ PushFrame cpu (frame_id (next_number S)) (new_frame plan S c o r) (irql_of (callback_irql plan c o.id.0)) ∷ take_if_any (next_number S) (lock_of_callback plan c o.id.0 (declared_in plan S o.id.0))) S).power
  started_still cpu c o r ds s =
      subst (StillAcked S.power) (sym (start_reads (λ (T : State A). T.power) (λ T L C. refl) plan S ds cpu.0 (next_number S) (new_frame plan S c o r) (callback_irql plan c o.id.0) (lock_of_callback plan c o.id.0 (declared_in plan S o.id.0)))) s

  start_still : (m : Meaning A) (cpu : Cpu) (c : Callback) (o : Handle) (r : Option Handle) → StillAcked S.power (after plan m S (event.Start cpu c o r)).power
  start_still m cpu c o None = started_still cpu c o None (effect plan S (row_of c).rank cpu.0 c o.id.0) (effect_still kept plan S (row_of c).rank cpu.0 c o.id.0)
  start_still m cpu c o (Some r) = started_still cpu c o (Some r) (effect_for (row_of c).rank o.id.0 r.id.0) (effect_for_still (row_of c).rank o.id.0 r.id.0)

-- ---- every event

module _ {A : Type 0} (plan : Plan) (m : Meaning A) (S : State A) where
  abbrev Acks : Event → Type 0
  Acks e = AckStep e S.power (after plan m S e).power

  plain : (e : Event) → is_plain e ≡ true → Acks e
  plain e h = still_event e S.power (after plan m S e).power (deeds_still plan (deeds plan S e) S (event_none plan S e h))

  did_steps : (cpu : Cpu) (c : Call) (v : Value) → may plan m S (event.Did cpu c v) ≡ true → Acks (event.Did cpu c v)
  did_steps cpu c v h =
      let d : IsDid plan S cpu.0 c v = did_tells plan m S cpu c v h in
      subst (AckStep (event.Did cpu c v) S.power)
      (sym (did_after (λ (T : State A). T.power) (λ T L C. refl) plan S cpu.0 c v d))
      (did_acked plan S cpu d.frame c.kind c.count c.a c.b c.c v d.about.clean)

  waiting_steps : (cpu : Cpu) (c : Call) → may plan m S (event.Waiting cpu c) ≡ true → Acks (event.Waiting cpu c)
  waiting_steps cpu c h =
      let d : IsWaiting plan S cpu.0 c = waiting_tells plan m S cpu c h in
      subst (AckStep (event.Waiting cpu c) S.power)
      (sym (waiting_after (λ (T : State A). T.power) (λ T L C. refl) plan S cpu.0 c d))
      (still_event (event.Waiting cpu c) S.power (do_deeds plan (outcome plan S cpu.0 d.frame c).deeds S).power (still_power kept S.power (do_deeds plan (outcome plan S cpu.0 d.frame c).deeds S).power (call_power plan S cpu.0 d.frame c.kind c.count c.a c.b c.c (waits_holding plan S c.kind c.count c.a c.b c.c d.unmet))))

  woke_steps : (cpu : Cpu) (c : Call) (v : Value) → may plan m S (event.Woke cpu c v) ≡ true → Acks (event.Woke cpu c v)
  woke_steps cpu c v h =
      let d : IsWoke S cpu.0 c v = woke_tells plan m S cpu c v h in
      subst (AckStep (event.Woke cpu c v) S.power)
      (sym (woke_after (λ (T : State A). T.power) (λ T L C. refl) plan S cpu.0 c v d))
      (still_event (event.Woke cpu c v) S.power S.power (still_power kept S.power S.power refl))

  pub event_acks : (e : Event) → may plan m S e ≡ true → Acks e
  event_acks (event.Start cpu c o r) h = still_event (event.Start cpu c o r) S.power (after plan m S (event.Start cpu c o r)).power (start_still plan S m cpu c o r)
  event_acks (event.Did cpu c v) h = did_steps cpu c v h
  event_acks (event.Waiting cpu c) h = waiting_steps cpu c h
  event_acks (event.Woke cpu c v) h = woke_steps cpu c v h
  event_acks (event.Complete r s) h = still_event (event.Complete r s) S.power (after plan m S (event.Complete r s)).power (still_completed kept plan S r.id.0)
  event_acks e h = plain e refl

  pub either_acks : (offered : List Event) (e : Event) → (may plan m S e ≡ true) ⊎ IsTick m S offered e → Acks e
  either_acks offered e (inl h) = event_acks e h
  either_acks offered e (inr t) = subst Acks (sym t.tick) (plain (event.Tick (S.clock + 1)) refl)
