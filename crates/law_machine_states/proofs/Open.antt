-- After an event, a request is held and not acknowledged in three cases only. It was so before, held from the same queue,
-- or the event takes it from the queue, or the event brings the queues of its device up.
use Rattle.std.proofs.Common.{if◌then◌else◌, ◌≡◌, ℕ, ◌+◌, ◌==◌, Bool, true, false, not, ◌&&◌, ◌||◌, List, [], ◌∷◌, ◌++◌, ◌⊎◌, inl, inr, Option, Some, None, refl, sym, ap, subst, ◌∙◌}
use Rattle.wdf_base.specs.Meaning.{Meaning}
use Rattle.wdf_base.specs.declared.ids.Cpu.{Cpu}
use Rattle.wdf_base.specs.declared.ids.Handle.{Handle}
use Rattle.wdf_base.specs.declared.plan.Plan.{Plan}
use Rattle.wdf_base.specs.declared.rank.Rank.{Rank}
use Rattle.wdf_base.specs.declared.rank.Rank.TheVariants as rank
use Rattle.wdf_base.specs.declared.value.Value.{Value}
use Rattle.wdf_base.specs.declared.value.Status.TheVariants as status
use Rattle.wdf_base.specs.declared.call.Arg.{Arg}
use Rattle.wdf_base.specs.declared.call.Call.{Call}
use Rattle.wdf_base.specs.declared.call.CallKind.{CallKind}
use Rattle.wdf_base.specs.declared.call.CallKind.TheVariants as call
use Rattle.wdf_base.specs.declared.call.Callback.{Callback}
use Rattle.wdf_base.specs.declared.event.Event.{Event}
use Rattle.wdf_base.specs.declared.event.Event.TheVariants as event
use Rattle.wdf_base.specs.declared.event.Fault.TheVariants as fault
use Rattle.wdf_base.specs.declared.event.Stage.{Stage}
use Rattle.wdf_base.specs.declared.event.Stage.TheVariants as stage
use Rattle.wdf_base.specs.declared.event.Step.TheVariants as step
use Rattle.wdf_base.specs.Callbacks.{row_of}
use Rattle.wdf_base.specs.Same.{same_callback}
use Rattle.wdf_base.specs.declared.object.LockRef.{LockRef}
use Rattle.wdf_base.specs.declared.call.Callback.TheVariants as callback
use Rattle.wdf_base.specs.declared.event.Post.{Post}
use Rattle.wdf_base.specs.declared.event.Post.TheVariants as post
use Rattle.law_trace_power.proofs.Unmoved.{is_moving, is_moving_event, none_moves}
use Rattle.law_trace_power.proofs.Unmoved as unmoved
use Rattle.wdf_model.specs.declared.entries.Holding.{Holding}
use Rattle.wdf_model.specs.Plans.{callback_irql, is_managed, is_parallel_queue, managed_queues, queues_of}
use Rattle.wdf_model.specs.parts.Tree.{subtree}
use Rattle.wdf_model.specs.parts.Control.{accepts, is_purged, mode_of}
use Rattle.wdf_model.specs.parts.Control as control
use Rattle.wdf_model.specs.parts.Locks.{lock_of_callback}
use Rattle.wdf_model.specs.parts.Queues.{front}
use Rattle.wdf_model.specs.parts.Requests.{is_cancelled}
use Rattle.wdf_model.specs.parts.Power.{Power, acknowledged, holding_of, is_held, is_held_at, no_holding, wake_holdings, with_up, woken}
use Rattle.wdf_model.specs.parts.Power as power
use Rattle.wdf_model.specs.State.{State, declared_in, object_in, queue_delivers}
use Rattle.wdf_model.specs.Ids.{cpu_of, frame_id, irql_of, object_id}
use Rattle.wdf_model.specs.declared.deed.Deed.{Deed}
use Rattle.wdf_model.specs.declared.deed.Deed.TheVariants.{PopFrame, PushFrame, TakeStep, Acknowledge, AdvancePower, AskStop, GiveBack, Requeue, Resume}
use Rattle.wdf_model.specs.rules.Deeds.{do_deed, do_deeds}
use Rattle.wdf_base.specs.Values.{arg_is}
use Rattle.wdf_model.specs.rules.Calls.{Outcome, forwards_nowhere, may_send, origin_or_none, outcome, refused, retrieve_front, success}
use Rattle.wdf_model.specs.rules.Starts.{effect, effect_for, end_of_step, new_frame, next_number, release_if_any, take_if_any}
use Rattle.wdf_model.specs.rules.Steps.{after, deeds, may, view_of}
use Rattle.law_machine_base.specs.FactsOfEvents.{IsTick}
use Rattle.wdf_model.proofs.Maps.{entry_map}
use Rattle.wdf_model.proofs.Tests.{both, both_left, both_right, first, itself, not_true, second}
use Rattle.wdf_model.proofs.Counts.{one_or_two}
use Rattle.law_machine_base.proofs.Fits.{wrong_kind_of_first}
use Rattle.law_machine_base.proofs.FitsOfCalls.{Clean}
use Rattle.law_machine_base.proofs.OwnEvents.{IsDid, IsWaiting, IsWoke, did_tells, waiting_tells, woke_tells}
use Rattle.law_machine_lives.proofs.Stays.{asks_all, closed_power, returning_power}
use Rattle.law_machine_counts.proofs.Releases.{holding_elsewhere}
use Rattle.wdf_laws.specs.declared.sign.Sign.TheVariants as sign
use Rattle.wdf_laws.specs.Events.{argument_object, is_handler, pair_of, value_object, where_so}
use Rattle.wdf_laws.specs.Signs.{is_taking_of, shows}
use Rattle.law_trace_requests.proofs.Cancels.{named}
use Rattle.law_trace_requests.proofs.FirstParts.{did_after, start_reads, waiting_after, woke_after}
use Rattle.law_trace_held.proofs.Holdings.{is_holding, none_holds, noted, taken_notes}
use Rattle.law_trace_held.proofs.HeldByCalls.{call_power}
use Rattle.law_trace_held.proofs.HoldingsOverRuns.{event_none, is_plain, waits_holding}
use Rattle.law_trace_held.proofs.StillSuch.{Advances, By, StillSuch, deed_still, effect_still, forwards_still, gives_still, sends_still, still_completed, still_one, still_power, still_same, still_then}
use Rattle.law_machine_lives.proofs.Readers.{power_of}
use Rattle.law_machine_lives.proofs.ReasonsOfCalls.{call_of}

-- ---- one request

-- it is held from a power-managed queue, and not acknowledged
abbrev pub is_open : Holding → Bool
is_open h = is_held h && not h.acknowledged

-- it is so after a change only where it was before, held from the same queue
abbrev StillOpen : Power → Power → Type 0
StillOpen P O = StillSuch not P O

-- ---- what deeds make of it

unmoved_still : (d : Deed) (P : Power) → is_moving d ≡ false → Advances not d P
unmoved_still (AdvancePower d s) P n = absurd (let z : ⊥ = cc in z)
unmoved_still _ P n = tt

deeds_still : {A : Type 0} (plan : Plan) (ds : List Deed) (S : State A) → none_holds ds ≡ true → none_moves ds ≡ true → StillOpen S.power (do_deeds plan ds S).power
deeds_still plan [] S h n x = still_power not S.power S.power refl x
deeds_still plan (d ∷ ds) S h n x =
    still_then not (holding_of S.power x) (holding_of (do_deed plan d S).power x) (holding_of (do_deeds plan ds (do_deed plan d S)).power x)
    (deed_still not plan d S (not_true (is_holding d) (both_left (not (is_holding d)) (none_holds ds) h)) (unmoved_still d S.power (not_true (is_moving d) (both_left (not (is_moving d)) (none_moves ds) n))) x)
    (deeds_still plan ds (do_deed plan d S) (both_right (not (is_holding d)) (none_holds ds) h) (both_right (not (is_moving d)) (none_moves ds) n) x)

-- ---- calls

module _ {A : Type 0} (plan : Plan) (S : State A) where
  acks_still : (r q : ℕ) (u v : Bool) → By not plan S (if u then success (Acknowledge (object_id r) ∷ []) else if v then success (GiveBack (object_id r) (object_id q) ∷ []) else success (Requeue (object_id r) (object_id q) ∷ []))
  acks_still r q true v = still_one not S.power r (λ h. record h { acknowledged = true }) (λ h t. absurd (let z : false ≡ true = both_right (is_held h) false t in let y : ⊥ = cc in y))
  acks_still r q false v = gives_still not plan S r q v

-- ---- each event

-- what makes a request so: it was so before, held from the same queue, or the event takes it from the queue or brings the
-- queues of its device up
pub data Opened (e : Event) (P O : Power) (x : ℕ) : Type 0 where
  Before : is_open (holding_of P x) ≡ true → noted O x ≡ noted P x → Opened e P O x
  Taken : shows (sign.TakingFrom x (noted O x)) e ≡ true → Opened e P O x
  Woken : (d : ℕ) → shows (sign.QueuesUp d) e ≡ true → is_held_at O d (holding_of O x) ≡ true → Opened e P O x

abbrev pub OpenStep : Event → Power → Power → Type 0
OpenStep e P O = (x : ℕ) → is_open (holding_of O x) ≡ true → Opened e P O x

before : (e : Event) (P O : Power) → StillOpen P O → OpenStep e P O
before e P O s x t = let k = s x t in Before k.0 k.1

takes : (e : Event) (P : Power) (r q : ℕ) (b : Bool) → shows (sign.TakingFrom r q) e ≡ true → OpenStep e P (if b then power.held_more P r q else P)
takes e P r q false told = before e P P (still_power not P P refl)
takes e P r q true told = λ x t. elim (one_or_two x r) [
  | inl y ↦
      let note : noted (power.held_more P r q) x ≡ q = ap (noted (power.held_more P r q)) y ∙ (taken_notes P q r).here in
      Taken (subst (λ p. shows (sign.TakingFrom x p) e ≡ true) (sym note) (subst (λ z. shows (sign.TakingFrom z q) e ≡ true) (sym y) told))
  | inr n ↦
      let k = still_same not (holding_of P x) (holding_of (power.held_more P r q) x) (holding_elsewhere P r x (λ _. record { queue = record { 0 = q }; acknowledged = false; stop_asked = false; resume_due = false }) n) t in
      Before k.0 k.1
]

-- ---- a call that takes a request

module _ {A : Type 0} (plan : Plan) (S : State A) (cpu : Cpu) (n : ℕ) (a b c : Arg) (v : Value) (named_ : argument_object a ≡ Some (object_in a)) where
  abbrev Retrieves : Outcome → Type 0
  Retrieves o = OpenStep (event.Did cpu (call_of call.WdfIoQueueRetrieveNextRequest n a b c) v) S.power (do_deeds plan o.deeds S).power

  front_opens : (x : Option ℕ) → v ≡ (retrieve_front plan S (object_in a) x).answer → Retrieves (retrieve_front plan S (object_in a) x)
  front_opens None answer = before (event.Did cpu (call_of call.WdfIoQueueRetrieveNextRequest n a b c) v) S.power S.power (still_power not S.power S.power refl)
  front_opens (Some r) answer =
      takes (event.Did cpu (call_of call.WdfIoQueueRetrieveNextRequest n a b c) v) S.power r (object_in a) (is_managed plan (object_in a))
      (ap (λ w. is_taking_of r (object_in a) (pair_of (value_object w) (argument_object a))) answer ∙ ap (λ o. is_taking_of r (object_in a) (pair_of (Some r) o)) named_ ∙ both (r == r) (object_in a == object_in a) (itself r) (itself (object_in a)))

  retrieve_opens : (u w : Bool) (x : Option ℕ) → v ≡ (if u then refused status.InvalidDeviceState else if w then refused status.WdfPaused else retrieve_front plan S (object_in a) x).answer
      → Retrieves (if u then refused status.InvalidDeviceState else if w then refused status.WdfPaused else retrieve_front plan S (object_in a) x)
  retrieve_opens true w x answer = before (event.Did cpu (call_of call.WdfIoQueueRetrieveNextRequest n a b c) v) S.power S.power (still_power not S.power S.power refl)
  retrieve_opens false true x answer = before (event.Did cpu (call_of call.WdfIoQueueRetrieveNextRequest n a b c) v) S.power S.power (still_power not S.power S.power refl)
  retrieve_opens false false x answer = front_opens x answer

module _ {A : Type 0} (plan : Plan) (S : State A) (cpu : Cpu) (f : ℕ) where
  abbrev Did : CallKind → ℕ → Arg → Arg → Arg → Value → Type 0
  Did k n a b x v = OpenStep (event.Did cpu (call_of k n a b x) v) S.power (do_deeds plan (outcome plan S cpu.0 f (call_of k n a b x)).deeds S).power

  did_by : (k : CallKind) (n : ℕ) (a b x : Arg) (v : Value) → StillOpen S.power (do_deeds plan (outcome plan S cpu.0 f (call_of k n a b x)).deeds S).power → Did k n a b x v
  did_by k n a b x v s = before (event.Did cpu (call_of k n a b x) v) S.power (do_deeds plan (outcome plan S cpu.0 f (call_of k n a b x)).deeds S).power s

  did_opens : (k : CallKind) (n : ℕ) (a b x : Arg) (v : Value) → Clean plan S cpu.0 f (call_of k n a b x) → v ≡ (outcome plan S cpu.0 f (call_of k n a b x)).answer → Did k n a b x v
  did_opens call.WdfRequestComplete n a b x v clean answer = did_by call.WdfRequestComplete n a b x v (still_completed not plan S (object_in a))
  did_opens call.WdfRequestRequeue n a b x v clean answer = did_by call.WdfRequestRequeue n a b x v (gives_still not plan S (object_in a) (origin_or_none S (object_in a)) (is_cancelled S.requests (object_in a) || is_purged (mode_of S.control (origin_or_none S (object_in a)))))
  did_opens call.WdfRequestForwardToIoQueue n a b x v clean answer =
      did_by call.WdfRequestForwardToIoQueue n a b x v (forwards_still not plan S (object_in a) (object_in b) (forwards_nowhere plan S (object_in a) (object_in b)) (not (accepts S.control (object_in b))) (is_cancelled S.requests (object_in a)))
  did_opens call.WdfRequestStopAcknowledge n a b x v clean answer =
      did_by call.WdfRequestStopAcknowledge n a b x v (acks_still plan S (object_in a) (origin_or_none S (object_in a)) (arg_is b 0) (is_cancelled S.requests (object_in a) || is_purged (mode_of S.control (origin_or_none S (object_in a)))))
  did_opens call.WdfRequestSend n a b x v clean answer = did_by call.WdfRequestSend n a b x v (sends_still not plan S (object_in a) (object_in b) (may_send S (object_in a) (object_in b)) (arg_is x 1))
  did_opens call.WdfIoQueueRetrieveNextRequest n a b x v clean answer =
      let it = named (view_of plan S cpu.0 f) (call_of call.WdfIoQueueRetrieveNextRequest n a b x) refl (wrong_kind_of_first (view_of plan S cpu.0 f) (call_of call.WdfIoQueueRetrieveNextRequest n a b x) (clean fault.WrongKind)) in
      retrieve_opens plan S cpu n a b x v it (is_parallel_queue plan (object_in a)) (not (queue_delivers plan S (object_in a))) (front S.queues (object_in a)) answer
  did_opens k n a b x v clean answer = did_by k n a b x v (still_power not S.power _ (call_power plan S cpu.0 f k n a b x refl))

-- ---- starts

returns_only : (c : Callback) → (row_of c).rank ≡ rank.CanceledOnQueue → same_callback c callback.EvtIoCanceledOnQueue ≡ true
returns_only callback.EvtIoCanceledOnQueue h = refl
returns_only _ h = absurd (let z : ⊥ = cc in z)

module _ {A : Type 0} (plan : Plan) (S : State A) (cpu : Cpu) (c : Callback) (o r : Handle) where
  abbrev e : Event
  e = event.Start cpu c o (Some r)

  taking_told : (is_handler (row_of c).rank || same_callback c callback.EvtIoCanceledOnQueue) ≡ true → shows (sign.TakingFrom r.id.0 o.id.0) e ≡ true
  taking_told h =
      ap (λ b. is_taking_of r.id.0 o.id.0 (pair_of (where_so b (Some r.id.0)) (Some o.id.0))) h ∙ both (r.id.0 == r.id.0) (o.id.0 == o.id.0) (itself r.id.0) (itself o.id.0)

  effect_opens : (y : Rank) → (row_of c).rank ≡ y → OpenStep e S.power (do_deeds plan (effect_for y o.id.0 r.id.0) S).power
  effect_opens rank.CanceledOnQueue is = takes e S.power r.id.0 o.id.0 (is_managed plan o.id.0) (taking_told (second (is_handler (row_of c).rank) (same_callback c callback.EvtIoCanceledOnQueue) (returns_only c is)))
  effect_opens rank.Stop is = before e S.power _ (deed_still not plan (AskStop r.id) S refl tt)
  effect_opens rank.Resume is = before e S.power _ (deed_still not plan (Resume r.id) S refl tt)
  effect_opens rank.Handler is = takes e S.power r.id.0 o.id.0 (is_managed plan o.id.0) (taking_told (first (is_handler (row_of c).rank) (same_callback c callback.EvtIoCanceledOnQueue) (ap is_handler is)))
  effect_opens _ is = before e S.power _ (still_power not S.power _ refl)

module _ {A : Type 0} (plan : Plan) (S : State A) where
  started : (cpu : Cpu) (c : Callback) (o : Handle) (r : Option Handle) (ds : List Deed)
      → (do_deeds plan (ds ++ PushFrame cpu (frame_id (next_number S)) (new_frame plan S c o r) (irql_of (callback_irql plan c o.id.0)) ∷ take_if_any (next_number S) (lock_of_callback plan c o.id.0 (declared_in plan S o.id.0))) S).power ≡ (do_deeds plan ds S).power
  started cpu c o r ds =
      start_reads (λ (T : State A). T.power) (λ T L C. refl) plan S ds cpu.0 (next_number S) (new_frame plan S c o r) (callback_irql plan c o.id.0) (lock_of_callback plan c o.id.0 (declared_in plan S o.id.0))

  start_opens : (m : Meaning A) (cpu : Cpu) (c : Callback) (o : Handle) (r : Option Handle) → OpenStep (event.Start cpu c o r) S.power (after plan m S (event.Start cpu c o r)).power
  start_opens m cpu c o None =
      subst (OpenStep (event.Start cpu c o None) S.power) (sym (started cpu c o None (effect plan S (row_of c).rank cpu.0 c o.id.0)))
      (before (event.Start cpu c o None) S.power (do_deeds plan (effect plan S (row_of c).rank cpu.0 c o.id.0) S).power (effect_still not plan S (row_of c).rank cpu.0 c o.id.0))
  start_opens m cpu c o (Some r) =
      subst (OpenStep (event.Start cpu c o (Some r)) S.power) (sym (started cpu c o (Some r) (effect_for (row_of c).rank o.id.0 r.id.0))) (effect_opens plan S cpu c o r (row_of c).rank refl)

  -- ---- ends

  end_power : (l : Option LockRef) (cpu : ℕ) (y : Rank) (c : Callback) (o : ℕ) (v : Value) → (do_deeds plan (release_if_any l ++ PopFrame (cpu_of cpu) ∷ end_of_step plan S y c o v) S).power ≡ S.power
  end_power None cpu rank.Sequence c o v = refl
  end_power None cpu _ c o v = refl
  end_power (Some l) cpu rank.Sequence c o v = refl
  end_power (Some l) cpu _ c o v = refl

-- ---- stages

woken_by : (P : Power) (d : ℕ) (h : Holding) (b : Bool) → is_held_at P d h ≡ b → is_open (woken P d h) ≡ true → (is_open h ≡ true) × ((woken P d h).queue.0 ≡ h.queue.0) ⊎ (is_held_at P d (woken P d h) ≡ true)
woken_by P d h true is t = inr (rw is is)
woken_by P d h false is t = inl (still_same not h (woken P d h) (rw is refl) t)

rises : (P : Power) (n : Handle) (j : Option Handle) → OpenStep (event.Stage n stage.QueuesUp j) P (wake_holdings (with_up P n.id.0 true) n.id.0)
rises P n j x t =
    let V : Power = with_up P n.id.0 true in
    let O : Power = wake_holdings V n.id.0 in
    let now : holding_of O x ≡ woken V n.id.0 (holding_of P x) = entry_map no_holding P.holdings (woken V n.id.0) x refl in
    elim (woken_by V n.id.0 (holding_of P x) (is_held_at V n.id.0 (holding_of P x)) refl (subst (λ (h : Holding). is_open h ≡ true) now t)) [
      | inl k ↦ Before k.0 (ap (λ (h : Holding). h.queue.0) now ∙ k.1)
      | inr k ↦ Woken n.id.0 (itself n.id.0) (subst (λ (h : Holding). is_held_at O n.id.0 h ≡ true) (sym now) k)
    ]

module _ {A : Type 0} (plan : Plan) (m : Meaning A) (S : State A) where
  abbrev Opens : Event → Type 0
  Opens e = OpenStep e S.power (after plan m S e).power

  stage_opens : (n : Handle) (s : Stage) (j : Option Handle) → Opens (event.Stage n s j)
  stage_opens n stage.QueuesUp j = rises S.power n j
  stage_opens n stage.QueuesDown j = before _ S.power _ (λ x. still_same not (holding_of S.power x) (holding_of (after plan m S (event.Stage n stage.QueuesDown j)).power x)
      (ap (λ (P : Power). holding_of P x) (returning_power (managed_queues plan n.id.0) (do_deeds plan (TakeStep n.id ∷ AdvancePower n.id (step.Pass stage.QueuesDown j) ∷ []) S))))
  stage_opens n stage.Closed j = before _ S.power _ (still_power not S.power _ (closed_power (queues_of plan n.id.0) (let T = do_deeds plan (TakeStep n.id ∷ []) S in record T { control = control.shut T.control n.id.0 })))
  stage_opens n stage.Removed j = before _ S.power _ (still_power not S.power _ (asks_all power_of (λ S T D W U. refl) (subtree S.tree n.id.0) (do_deeds plan (TakeStep n.id ∷ []) S)))
  stage_opens n _ j = before _ S.power _ (λ x. still_same not (holding_of S.power x) (holding_of S.power x) refl)

  plain : (e : Event) → is_plain e ≡ true → is_moving_event e ≡ false → Opens e
  plain e h k = before e S.power (after plan m S e).power (deeds_still plan (deeds plan S e) S (event_none plan S e h) (unmoved.event_none plan S e k))

  posts : (agent : ℕ) (p : Post) (answer : Option Handle) → Opens (event.Posted agent p answer)
  posts agent (post.Ask a device) answer = before (event.Posted agent (post.Ask a device) answer) S.power S.power (still_power not S.power S.power refl)
  posts agent p answer = plain (event.Posted agent p answer) refl refl

  did_steps : (cpu : Cpu) (c : Call) (v : Value) → may plan m S (event.Did cpu c v) ≡ true → Opens (event.Did cpu c v)
  did_steps cpu c v h =
      let d : IsDid plan S cpu.0 c v = did_tells plan m S cpu c v h in
      subst (OpenStep (event.Did cpu c v) S.power)
      (sym (did_after (λ (T : State A). T.power) (λ T L C. refl) plan S cpu.0 c v d))
      (did_opens plan S cpu d.frame c.kind c.count c.a c.b c.c v d.about.clean d.answer)

  waiting_steps : (cpu : Cpu) (c : Call) → may plan m S (event.Waiting cpu c) ≡ true → Opens (event.Waiting cpu c)
  waiting_steps cpu c h =
      let d : IsWaiting plan S cpu.0 c = waiting_tells plan m S cpu c h in
      subst (OpenStep (event.Waiting cpu c) S.power)
      (sym (waiting_after (λ (T : State A). T.power) (λ T L C. refl) plan S cpu.0 c d))
      (before (event.Waiting cpu c) S.power (do_deeds plan (outcome plan S cpu.0 d.frame c).deeds S).power (still_power not S.power (do_deeds plan (outcome plan S cpu.0 d.frame c).deeds S).power (call_power plan S cpu.0 d.frame c.kind c.count c.a c.b c.c (waits_holding plan S c.kind c.count c.a c.b c.c d.unmet))))

  woke_steps : (cpu : Cpu) (c : Call) (v : Value) → may plan m S (event.Woke cpu c v) ≡ true → Opens (event.Woke cpu c v)
  woke_steps cpu c v h =
      let d : IsWoke S cpu.0 c v = woke_tells plan m S cpu c v h in
      subst (OpenStep (event.Woke cpu c v) S.power)
      (sym (woke_after (λ (T : State A). T.power) (λ T L C. refl) plan S cpu.0 c v d))
      (before (event.Woke cpu c v) S.power S.power (still_power not S.power S.power refl))

  pub event_opens : (e : Event) → may plan m S e ≡ true → Opens e
  event_opens (event.Start cpu c o r) h = start_opens plan S m cpu c o r
  event_opens (event.End cpu c o v) h = before (event.End cpu c o v) S.power (after plan m S (event.End cpu c o v)).power (still_power not S.power _ (end_power plan S (lock_of_callback plan c o.id.0 (declared_in plan S o.id.0)) cpu.0 (row_of c).rank c o.id.0 v))
  event_opens (event.Stage n s j) h = stage_opens n s j
  event_opens (event.Posted agent p answer) h = posts agent p answer
  event_opens (event.Did cpu c v) h = did_steps cpu c v h
  event_opens (event.Waiting cpu c) h = waiting_steps cpu c h
  event_opens (event.Woke cpu c v) h = woke_steps cpu c v h
  event_opens (event.Complete r s) h = before (event.Complete r s) S.power (after plan m S (event.Complete r s)).power (still_completed not plan S r.id.0)
  event_opens e h = plain e refl refl

  pub either_opens : (offered : List Event) (e : Event) → (may plan m S e ≡ true) ⊎ IsTick m S offered e → Opens e
  either_opens offered e (inl h) = event_opens e h
  either_opens offered e (inr t) = subst Opens (sym t.tick) (plain (event.Tick (S.clock + 1)) refl refl)
