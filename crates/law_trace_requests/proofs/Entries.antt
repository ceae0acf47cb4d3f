-- What each event does to the lines of waiting requests: they shrink, or the request that the event gives enters one.
use Rattle.std.proofs.Common.{if◌then◌else◌, ◌≡◌, ℕ, ◌+◌, ◌==◌, Bool, true, false, not, ◌&&◌, ◌||◌, List, [], ◌∷◌, ◌++◌, ◌⊎◌, inl, inr, Option, Some, None, count_by, refl, sym, ap, subst, ◌∙◌}
use Rattle.std.proofs.lemmas.Bool.{eqb-true, or_cases}
use Rattle.std.specs.List.{list_all}
use Rattle.wdf_base.specs.Meaning.{Meaning}
use Rattle.wdf_base.specs.declared.ids.Cpu.{Cpu}
use Rattle.wdf_base.specs.declared.ids.Handle.{Handle}
use Rattle.wdf_base.specs.declared.plan.Plan.{Plan}
use Rattle.wdf_base.specs.declared.value.Value.{Value}
use Rattle.wdf_base.specs.declared.value.Value.TheVariants.{Stat}
use Rattle.wdf_base.specs.declared.value.Status.TheVariants as status
use Rattle.wdf_base.specs.declared.object.Place.{Place}
use Rattle.wdf_base.specs.declared.object.Place.TheVariants as place
use Rattle.wdf_base.specs.declared.object.RequestForm.{RequestForm}
use Rattle.wdf_base.specs.declared.object.RequestForm.TheVariants as form
use Rattle.wdf_base.specs.declared.object.RequestInfo.{RequestInfo}
use Rattle.wdf_base.specs.declared.call.Arg.{Arg}
use Rattle.wdf_base.specs.declared.call.Call.{Call}
use Rattle.wdf_base.specs.declared.call.CallKind.{CallKind}
use Rattle.wdf_base.specs.declared.call.CallKind.TheVariants as call
use Rattle.wdf_base.specs.declared.call.Callback.TheVariants as callback
use Rattle.wdf_base.specs.declared.event.Event.{Event}
use Rattle.wdf_base.specs.declared.event.Event.TheVariants as event
use Rattle.wdf_base.specs.declared.event.Fault.TheVariants as fault
use Rattle.wdf_base.specs.declared.event.Post.{Post}
use Rattle.wdf_base.specs.declared.event.Post.TheVariants as post
use Rattle.wdf_base.specs.Same.{same_handle, same_option, same_post}
use Rattle.wdf_base.specs.Lives.{is_live}
use Rattle.wdf_base.specs.Places.{is_owned, is_queued_in}
use Rattle.wdf_model.specs.Tables.{flag}
use Rattle.wdf_model.specs.Plans.{declares}
use Rattle.wdf_model.specs.parts.Tree.{life_of, next_id}
use Rattle.wdf_model.specs.parts.Requests.{is_cancelled, mark_answer, place_of}
use Rattle.wdf_model.specs.parts.Queues.{Queues, waiting_in}
use Rattle.wdf_model.specs.parts.Queues as queues
use Rattle.wdf_model.specs.parts.Control.{accepts, is_purged, mode_of}
use Rattle.wdf_model.specs.State.{State, object_in}
use Rattle.wdf_model.specs.Ids.{object_id}
use Rattle.wdf_model.specs.declared.deed.Deed.TheVariants.{Acknowledge, Arrive, CompleteRequest, CountArrival, Forward, GiveBack, MarkRequest, Requeue, Withdraw}
use Rattle.wdf_model.specs.rules.Deeds.{arrive_at, do_deed, do_deeds, give_up}
use Rattle.wdf_model.specs.rules.Calls.{Outcome, forwards_nowhere, origin_or_none, outcome, refused, requeue_outcome, success}
use Rattle.wdf_model.specs.rules.Posts.{arrival_info, arrival_place, arriving, cancel_at, cancel_deeds, cancel_reaches, due_of, post_answer, post_fits}
use Rattle.wdf_model.specs.rules.Steps.{after, deeds, may, view_of}
use Rattle.law_machine_base.specs.FactsOfEvents.{IsTick}
use Rattle.law_machine_base.specs.Fits.{all_fit}
use Rattle.wdf_model.proofs.Tests.{both_right, not_false}
use Rattle.wdf_model.proofs.Counts.{one_or_two}
use Rattle.wdf_model.proofs.Sames.{handle_same}
use Rattle.law_machine_base.proofs.Fits.{wrong_kind_of_first}
use Rattle.law_machine_base.proofs.FitsOfCalls.{Clean, outcome_fits}
use Rattle.law_machine_base.proofs.OwnEvents.{IsDid, did_tells, waiting_tells}
use Rattle.law_machine_base.proofs.KeptByDeeds.{KeptIn, owned_of}
use Rattle.law_machine_base.proofs.KeptTargets.{nowhere_yet}
use Rattle.wdf_laws.specs.declared.sign.Sign.TheVariants as sign
use Rattle.wdf_laws.specs.Events.{argument_object, headed, id_in, is_id, tailed, where_so}
use Rattle.wdf_laws.specs.Signs.{shows}
use Rattle.law_machine_base.proofs.KeptMoves.{queue_elsewhere, queue_here}
use Rattle.law_machine_lives.proofs.ReasonsOfCalls.{call_of}
use Rattle.law_trace_requests.proofs.Quiet.{event_none, is_loud_call, is_loud_event, outcome_none}
use Rattle.law_trace_requests.proofs.FirstParts.{did_after}
use Rattle.law_trace_requests.proofs.Lines.{LinesShrink, Shrinks, all_such, deed_shrinks, deeds_shrink, fresh_of, given_lines, lines_same, shrinks_same}
use Rattle.law_trace_requests.proofs.Gives.{given_first}
use Rattle.law_trace_requests.proofs.Cancels.{named, where_told}
use Rattle.law_trace_requests.proofs.CancelsOverRuns.{waits_quietly}
use Rattle.wdf_base.specs.Values.{arg_is, is_success}

-- a line shrinks, or the request that the event gives enters it at its head or at its tail
abbrev pub LineStep : Event → List ℕ → List ℕ → Type 0
LineStep e xs ys =
    Shrinks xs ys ⊎ (((r : ℕ) × (headed e ≡ Some r) × (ys ≡ r ∷ xs)) ⊎ ((r : ℕ) × (tailed e ≡ Some r) × (headed e ≡ None) × (ys ≡ xs ++ r ∷ [])))

pub record LineSteps (e : Event) (Q U : Queues) : Type 0 where
  pub step : (q : ℕ) → LineStep e (waiting_in Q q) (waiting_in U q)
  -- a request that enters waits nowhere before
  pub fresh : (q : ℕ) → list_all (λ x. not (shows (sign.Entry x) e)) (waiting_in Q q) ≡ true

-- ---- events by which nothing enters

shrink_steps : (e : Event) (Q U : Queues) → LinesShrink Q U → ((x : ℕ) → shows (sign.Entry x) e ≡ false) → LineSteps e Q U
shrink_steps e Q U h none = record {
  step = λ q. inl (h q);
  fresh = λ q. all_such (λ x. not (shows (sign.Entry x) e)) (waiting_in Q q) (λ x. ap not (none x));
}

calm_steps : {A : Type 0} (plan : Plan) (m : Meaning A) (S : State A) (e : Event) → is_loud_event e ≡ false → ((x : ℕ) → shows (sign.Entry x) e ≡ false) → LineSteps e S.queues (after plan m S e).queues
calm_steps plan m S e quiet none = shrink_steps e S.queues (after plan m S e).queues (deeds_shrink plan (deeds plan S e) S (event_none plan S e quiet)) none

-- ---- calls

-- a request that isn't Queued waits nowhere
owned_nowhere : {A : Type 0} {F B : ℕ → Bool} (S : State A) (r q : ℕ) → is_owned (place_of S.requests r) ≡ true → KeptIn F B S → count_by (λ x. x == r) (waiting_in S.queues q) ≡ 0
owned_nowhere S r q h k = k.queued q r ∙ ap flag (unqueued (place_of S.requests r) h)
  where
    unqueued : (p : Place) → is_owned p ≡ true → is_queued_in q p ≡ false
    unqueued (place.Queued p) e = absurd (let z : ⊥ = cc in z)
    unqueued _ e = refl

-- a step by one request, which waits nowhere before
one_enters : {A : Type 0} {F B : ℕ → Bool} (S : State A) (e : Event) (U : Queues) (r : ℕ) → is_owned (place_of S.requests r) ≡ true → KeptIn F B S → ((x : ℕ) → shows (sign.Entry x) e ≡ true → x ≡ r)
    → ((q : ℕ) → LineStep e (waiting_in S.queues q) (waiting_in U q)) → LineSteps e S.queues U
one_enters S e U r owned k only steps = record {
  step = steps;
  fresh = λ q. fresh_of (λ x. shows (sign.Entry x) e) r (waiting_in S.queues q) only (owned_nowhere S r q owned k);
}

head_steps : {A : Type 0} (plan : Plan) (S : State A) (e : Event) (r q : ℕ) → headed e ≡ Some r → (x : ℕ) → LineStep e (waiting_in S.queues x) (waiting_in (do_deed plan (Requeue (object_id r) (object_id q)) S).queues x)
head_steps plan S e r q h x = elim (one_or_two x q) [
  | inl at ↦ inr (inl (
    r,
    h,
    subst (λ (y : ℕ). waiting_in (do_deed plan (Requeue (object_id r) (object_id q)) S).queues y ≡ r ∷ waiting_in S.queues y) (sym at)
        (queue_here (give_up S r).queues q (λ rs. r ∷ rs) ∙ ap (λ rs. r ∷ rs) (given_lines S r q)),
  ))
  | inr n ↦ inl (shrinks_same (waiting_in S.queues x) (waiting_in (do_deed plan (Requeue (object_id r) (object_id q)) S).queues x) (queue_elsewhere (give_up S r).queues q x (λ rs. r ∷ rs) n ∙ given_lines S r x))
]

tail_steps : {A : Type 0} (plan : Plan) (S : State A) (e : Event) (r q : ℕ) → tailed e ≡ Some r → headed e ≡ None → (x : ℕ) → LineStep e (waiting_in S.queues x) (waiting_in (do_deed plan (Forward (object_id r) (object_id q)) S).queues x)
tail_steps plan S e r q h none x = elim (one_or_two x q) [
  | inl at ↦ inr (inr (
    r,
    h,
    none,
    subst (λ (y : ℕ). waiting_in (do_deed plan (Forward (object_id r) (object_id q)) S).queues y ≡ waiting_in S.queues y ++ r ∷ []) (sym at)
        (queue_here (give_up S r).queues q (λ rs. rs ++ r ∷ []) ∙ ap (λ rs. rs ++ r ∷ []) (given_lines S r q)),
  ))
  | inr n ↦ inl (shrinks_same (waiting_in S.queues x) (waiting_in (do_deed plan (Forward (object_id r) (object_id q)) S).queues x) (queue_elsewhere (give_up S r).queues q x (λ rs. rs ++ r ∷ []) n ∙ given_lines S r x))
]

requeue_steps : {A : Type 0} (plan : Plan) (S : State A) (e : Event) (r q : ℕ) (u : Bool) → headed e ≡ Some r → (x : ℕ)
    → LineStep e (waiting_in S.queues x) (waiting_in (do_deeds plan (if u then success (GiveBack (object_id r) (object_id q) ∷ []) else success (Requeue (object_id r) (object_id q) ∷ [])).deeds S).queues x)
requeue_steps plan S e r q true h x = inl (deed_shrinks plan (GiveBack (object_id r) (object_id q)) S refl x)
requeue_steps plan S e r q false h x = head_steps plan S e r q h x

-- what a forward does, by its tests
abbrev pub forward_by : ℕ → ℕ → Bool → Bool → Bool → Outcome
forward_by r q nowhere closed cancelled_ =
    if nowhere then refused status.InvalidDeviceRequest else if closed then refused status.WdfBusy else if cancelled_ then success (GiveBack (object_id r) (object_id q) ∷ []) else success (Forward (object_id r) (object_id q) ∷ [])

module _ {A : Type 0} {F B : ℕ → Bool} (plan : Plan) (S : State A) (cpu : Cpu) (n : ℕ) (a b x : Arg) (v : Value) (k : KeptIn F B S) where
  abbrev forwarding : Event
  forwarding = event.Did cpu (call_of call.WdfRequestForwardToIoQueue n a b x) v

  nothing_forwarded : (U : Queues) → U ≡ S.queues → is_success v ≡ false → LineSteps forwarding S.queues U
  nothing_forwarded U e failed = shrink_steps forwarding S.queues U (lines_same S.queues U e) (λ y. ap (λ t. is_id y (where_so t (argument_object a))) failed)

  well_forwarded : argument_object a ≡ Some (object_in a) → is_success v ≡ true → tailed forwarding ≡ Some (object_in a)
  well_forwarded it well = ap (λ t. where_so t (argument_object a)) well ∙ it

  forward_steps : (nowhere closed cancelled_ : Bool) → v ≡ (forward_by (object_in a) (object_in b) nowhere closed cancelled_).answer → argument_object a ≡ Some (object_in a) → is_owned (place_of S.requests (object_in a)) ≡ true
      → LineSteps forwarding S.queues (do_deeds plan (forward_by (object_in a) (object_in b) nowhere closed cancelled_).deeds S).queues
  forward_steps true closed cancelled_ answer it owned = nothing_forwarded S.queues refl (ap is_success answer)
  forward_steps false true cancelled_ answer it owned = nothing_forwarded S.queues refl (ap is_success answer)
  forward_steps false false true answer it owned =
      one_enters S forwarding (do_deeds plan (GiveBack (object_id (object_in a)) (object_id (object_in b)) ∷ []) S).queues (object_in a) owned k (λ y t. (where_told y (is_success v) a t).1)
      (λ q. inl (deed_shrinks plan (GiveBack (object_id (object_in a)) (object_id (object_in b))) S refl q))
  forward_steps false false false answer it owned =
      one_enters S forwarding (do_deeds plan (Forward (object_id (object_in a)) (object_id (object_in b)) ∷ []) S).queues (object_in a) owned k (λ y t. (where_told y (is_success v) a t).1)
      (tail_steps plan S forwarding (object_in a) (object_in b) (well_forwarded it (ap is_success answer)) refl)

  -- what is given back to the queue that it came from, by this call or that
  back_steps : (c : Call) (q : ℕ) → c.a ≡ a → headed (event.Did cpu c v) ≡ Some (object_in a) → tailed (event.Did cpu c v) ≡ None → is_owned (place_of S.requests (object_in a)) ≡ true
      → LineSteps (event.Did cpu c v) S.queues (do_deeds plan (requeue_outcome S (object_in a) q).deeds S).queues
  back_steps c q e h none owned =
      one_enters S (event.Did cpu c v) (do_deeds plan (requeue_outcome S (object_in a) q).deeds S).queues (object_in a) owned k
      (λ y t. elim (or_cases (is_id y (headed (event.Did cpu c v))) (is_id y (tailed (event.Did cpu c v))) t) [
        | inl i ↦ sym (eqb-true (object_in a) y (sym (ap (is_id y) h) ∙ i))
        | inr i ↦ absurd (let f : is_id y None ≡ true = sym (ap (is_id y) none) ∙ i in let z : ⊥ = cc in z)
      ])
      (λ z. requeue_steps plan S (event.Did cpu c v) (object_in a) q (is_cancelled S.requests (object_in a) || is_purged (mode_of S.control q)) h z)

  abbrev stopping : Event
  stopping = event.Did cpu (call_of call.WdfRequestStopAcknowledge n a b x) v

  stop_steps : (u : Bool) → arg_is b 0 ≡ u → argument_object a ≡ Some (object_in a) → all_fit plan (if u then success (Acknowledge (object_id (object_in a)) ∷ []) else requeue_outcome S (object_in a) (origin_or_none S (object_in a))).deeds S ≡ true
      → LineSteps stopping S.queues (do_deeds plan (if u then success (Acknowledge (object_id (object_in a)) ∷ []) else requeue_outcome S (object_in a) (origin_or_none S (object_in a))).deeds S).queues
  stop_steps true e it fit = shrink_steps stopping S.queues S.queues (lines_same S.queues S.queues refl) (λ y. rw e refl)
  stop_steps false e it fit =
      back_steps (call_of call.WdfRequestStopAcknowledge n a b x) (origin_or_none S (object_in a)) refl (ap (λ t. where_so (not t) (argument_object a)) e ∙ it) refl
      (owned_of S (object_in a) (given_first plan S (object_in a) (origin_or_none S (object_in a)) fit))

  mark_steps : (u : Bool) → LineSteps (event.Did cpu (call_of call.WdfRequestMarkCancelableEx n a b x) v) S.queues
      (do_deeds plan (if u then record { answer = Stat (mark_answer S.requests (object_in a)); deeds = MarkRequest (object_id (object_in a)) ∷ [] } else refused status.InvalidDeviceRequest).deeds S).queues
  mark_steps true = shrink_steps _ S.queues S.queues (lines_same S.queues S.queues refl) (λ y. refl)
  mark_steps false = shrink_steps _ S.queues S.queues (lines_same S.queues S.queues refl) (λ y. refl)

-- what is not loud lets nothing enter
quiet_enters : (y : ℕ) (cpu : Cpu) (k : CallKind) (n : ℕ) (a b x : Arg) (v : Value) → is_loud_call k ≡ false → shows (sign.Entry y) (event.Did cpu (call_of k n a b x) v) ≡ false
quiet_enters y cpu call.WdfRequestRequeue n a b x v h = absurd (let z : ⊥ = cc in z)
quiet_enters y cpu call.WdfRequestForwardToIoQueue n a b x v h = absurd (let z : ⊥ = cc in z)
quiet_enters y cpu call.WdfRequestStopAcknowledge n a b x v h = absurd (let z : ⊥ = cc in z)
quiet_enters y cpu _ n a b x v h = refl

call_steps : {A : Type 0} {F B : ℕ → Bool} (plan : Plan) (S : State A) (cpu : Cpu) (f : ℕ) (k : CallKind) (n : ℕ) (a b x : Arg) (v : Value) → Clean plan S cpu.0 f (call_of k n a b x) → v ≡ (outcome plan S cpu.0 f (call_of k n a b x)).answer → KeptIn F B S
    → LineSteps (event.Did cpu (call_of k n a b x) v) S.queues (do_deeds plan (outcome plan S cpu.0 f (call_of k n a b x)).deeds S).queues
call_steps plan S cpu f call.WdfRequestComplete n a b x v clean answer kept =
    shrink_steps (event.Did cpu (call_of call.WdfRequestComplete n a b x) v) S.queues (do_deeds plan (CompleteRequest (object_id (object_in a)) ∷ []) S).queues (deed_shrinks plan (CompleteRequest (object_id (object_in a))) S refl) (λ y. refl)
call_steps plan S cpu f call.WdfRequestMarkCancelableEx n a b x v clean answer kept = mark_steps plan S cpu n a b x v kept (declares plan callback.EvtRequestCancel (origin_or_none S (object_in a)))
call_steps plan S cpu f call.WdfRequestRequeue n a b x v clean answer kept =
    back_steps plan S cpu n a b x v kept (call_of call.WdfRequestRequeue n a b x) (origin_or_none S (object_in a)) refl
    (named (view_of plan S cpu.0 f) (call_of call.WdfRequestRequeue n a b x) refl (wrong_kind_of_first (view_of plan S cpu.0 f) (call_of call.WdfRequestRequeue n a b x) (clean fault.WrongKind))) refl
    (not_false (is_owned (place_of S.requests (object_in a))) (clean fault.NotOwned))
call_steps plan S cpu f call.WdfRequestForwardToIoQueue n a b x v clean answer kept =
    forward_steps plan S cpu n a b x v kept (forwards_nowhere plan S (object_in a) (object_in b)) (not (accepts S.control (object_in b))) (is_cancelled S.requests (object_in a)) answer
    (named (view_of plan S cpu.0 f) (call_of call.WdfRequestForwardToIoQueue n a b x) refl (wrong_kind_of_first (view_of plan S cpu.0 f) (call_of call.WdfRequestForwardToIoQueue n a b x) (clean fault.WrongKind)))
    (not_false (is_owned (place_of S.requests (object_in a))) (clean fault.NotOwned))
call_steps plan S cpu f call.WdfRequestStopAcknowledge n a b x v clean answer kept =
    stop_steps plan S cpu n a b x v kept (arg_is b 0) refl
    (named (view_of plan S cpu.0 f) (call_of call.WdfRequestStopAcknowledge n a b x) refl (wrong_kind_of_first (view_of plan S cpu.0 f) (call_of call.WdfRequestStopAcknowledge n a b x) (clean fault.WrongKind)))
    (outcome_fits plan S cpu.0 f call.WdfRequestStopAcknowledge n a b x clean)
call_steps plan S cpu f k n a b x v clean answer kept =
    shrink_steps (event.Did cpu (call_of k n a b x) v) S.queues (do_deeds plan (outcome plan S cpu.0 f (call_of k n a b x)).deeds S).queues
    (deeds_shrink plan (outcome plan S cpu.0 f (call_of k n a b x)).deeds S (outcome_none plan S cpu.0 f k n a b x refl)) (λ y. quiet_enters y cpu k n a b x v refl)

did_steps : {A : Type 0} {F B : ℕ → Bool} (plan : Plan) (m : Meaning A) (S : State A) (cpu : Cpu) (c : Call) (v : Value) → may plan m S (event.Did cpu c v) ≡ true → KeptIn F B S → LineSteps (event.Did cpu c v) S.queues (after plan m S (event.Did cpu c v)).queues
did_steps {A} plan m S cpu c v h k =
    let d : IsDid plan S cpu.0 c v = did_tells plan m S cpu c v h in
    let same : (after plan m S (event.Did cpu c v)).queues ≡ (do_deeds plan (outcome plan S cpu.0 d.frame c).deeds S).queues =
    did_after (λ (T : State A). T.queues) (λ T L C. refl) plan S cpu.0 c v d in
    subst (LineSteps (event.Did cpu c v) S.queues) (sym same) (call_steps plan S cpu d.frame c.kind c.count c.a c.b c.c v d.about.clean d.answer k)

-- ---- posts

answered_by : {A : Type 0} (S : State A) (b : Bool) (answer : Option Handle) → same_option same_handle (if b then Some (arriving S) else None) answer ≡ true → id_in answer ≡ (if b then Some (next_id S.tree) else None)
answered_by S true (Some h) e = ap (λ (x : Handle). Some x.id.0) (sym (handle_same (arriving S) h e))
answered_by S true None e = absurd (let z : ⊥ = cc in z)
answered_by S false (Some h) e = absurd (let z : ⊥ = cc in z)
answered_by S false None e = refl

arrives_in : {A : Type 0} (S : State A) (e : Event) (device : ℕ) (info : RequestInfo) (p : Place) → headed e ≡ None → tailed e ≡ Some (next_id S.tree) → (x : ℕ) → LineStep e (waiting_in S.queues x) (waiting_in (arrive_at S device info p).queues x)
arrives_in S e device info (place.Queued q) h t x = elim (one_or_two x q.0) [
  | inl at ↦ inr (inr (
    next_id S.tree,
    t,
    h,
    subst (λ (y : ℕ). waiting_in (queues.enter S.queues q.0 (next_id S.tree)) y ≡ waiting_in S.queues y ++ next_id S.tree ∷ []) (sym at) (queue_here S.queues q.0 (λ rs. rs ++ next_id S.tree ∷ [])),
  ))
  | inr n ↦ inl (shrinks_same (waiting_in S.queues x) (waiting_in (queues.enter S.queues q.0 (next_id S.tree)) x) (queue_elsewhere S.queues q.0 x (λ rs. rs ++ next_id S.tree ∷ []) n))
]
arrives_in S e device info _ h t x = inl (λ P E l. l)

entry_told : (e : Event) (r : ℕ) → headed e ≡ None → tailed e ≡ Some r → (x : ℕ) → shows (sign.Entry x) e ≡ true → x ≡ r
entry_told e r h t x s = elim (or_cases (is_id x (headed e)) (is_id x (tailed e)) s) [
  | inl i ↦ absurd (let f : is_id x None ≡ true = sym (ap (is_id x) h) ∙ i in let z : ⊥ = cc in z)
  | inr i ↦ sym (eqb-true r x (sym (ap (is_id x) t) ∙ i))
]

no_entry : (e : Event) → headed e ≡ None → tailed e ≡ None → (x : ℕ) → shows (sign.Entry x) e ≡ false
no_entry e h t x = rw (h, t) refl

arrival_steps : {A : Type 0} {F B : ℕ → Bool} (plan : Plan) (S : State A) (e : Event) (agent : ℕ) (f : RequestForm) (length code device : ℕ) (b : Bool) → headed e ≡ None → tailed e ≡ (if b then Some (next_id S.tree) else None) → KeptIn F B S
    → LineSteps e S.queues (do_deeds plan (CountArrival agent ∷ (if b then Arrive (object_id device) (arrival_info S agent f length code device) (arrival_place plan S f length device) ∷ [] else [])) S).queues
arrival_steps plan S e agent f length code device false h t k = shrink_steps e S.queues S.queues (lines_same S.queues S.queues refl) (no_entry e h t)
arrival_steps plan S e agent f length code device true h t k = record {
  step = arrives_in (do_deed plan (CountArrival agent) S) e device (arrival_info S agent f length code device) (arrival_place plan S f length device) h t;
  fresh = λ q. fresh_of (λ x. shows (sign.Entry x) e) (next_id S.tree) (waiting_in S.queues q) (entry_told e (next_id S.tree) h t) (nowhere_yet k q);
}

cancel_steps_at : {A : Type 0} (plan : Plan) (S : State A) (e : Event) (p : Place) (r : ℕ) → ((x : ℕ) → shows (sign.Entry x) e ≡ false) → LineSteps e S.queues (do_deeds plan (cancel_at p r) S).queues
cancel_steps_at plan S e (place.Queued q) r none = shrink_steps e S.queues (do_deed plan (Withdraw q (object_id r)) S).queues (deed_shrinks plan (Withdraw q (object_id r)) S refl) none
cancel_steps_at plan S e _ r none = shrink_steps e S.queues S.queues (lines_same S.queues S.queues refl) none

cancel_steps : {A : Type 0} (plan : Plan) (S : State A) (e : Event) (x : Option ℕ) → ((y : ℕ) → shows (sign.Entry y) e ≡ false) → LineSteps e S.queues (do_deeds plan (cancel_deeds S x) S).queues
cancel_steps plan S e None none = shrink_steps e S.queues S.queues (lines_same S.queues S.queues refl) none
cancel_steps plan S e (Some r) none = cancel_steps_at plan S e (place_of S.requests r) r none

post_steps : {A : Type 0} {F B : ℕ → Bool} (plan : Plan) (m : Meaning A) (S : State A) (agent : ℕ) (p : Post) (answer : Option Handle) → same_option same_handle (post_answer plan S agent p) answer ≡ true → KeptIn F B S
    → LineSteps (event.Posted agent p answer) S.queues (after plan m S (event.Posted agent p answer)).queues
post_steps plan m S agent (post.Read device length) answer h k =
    arrival_steps plan S (event.Posted agent (post.Read device length) answer) agent form.Read length 0 device.id.0 (is_live (life_of S.tree device.id.0)) refl (answered_by S (is_live (life_of S.tree device.id.0)) answer h) k
post_steps plan m S agent (post.Write device length) answer h k =
    arrival_steps plan S (event.Posted agent (post.Write device length) answer) agent form.Write length 0 device.id.0 (is_live (life_of S.tree device.id.0)) refl (answered_by S (is_live (life_of S.tree device.id.0)) answer h) k
post_steps plan m S agent (post.Control device code length) answer h k =
    arrival_steps plan S (event.Posted agent (post.Control device code length) answer) agent form.Control length code device.id.0 (is_live (life_of S.tree device.id.0)) refl (answered_by S (is_live (life_of S.tree device.id.0)) answer h) k
post_steps plan m S agent (post.Cancel n) answer h k = cancel_steps plan S (event.Posted agent (post.Cancel n) answer) (cancel_reaches S agent n) (λ x. refl)
post_steps plan m S agent (post.Ask a device) answer h k = shrink_steps (event.Posted agent (post.Ask a device) answer) S.queues S.queues (lines_same S.queues S.queues refl) (λ x. refl)
post_steps plan m S agent (post.Act action) answer h k = shrink_steps (event.Posted agent (post.Act action) answer) S.queues S.queues (lines_same S.queues S.queues refl) (λ x. refl)
post_steps plan m S agent (post.Done r s) answer h k = shrink_steps (event.Posted agent (post.Done r s) answer) S.queues S.queues (lines_same S.queues S.queues refl) (λ x. refl)

-- ---- every event

module _ {A : Type 0} {F B : ℕ → Bool} (plan : Plan) (m : Meaning A) (S : State A) (k : KeptIn F B S) where
  pub event_steps : (e : Event) → may plan m S e ≡ true → LineSteps e S.queues (after plan m S e).queues
  event_steps (event.Did cpu c v) h = did_steps plan m S cpu c v h k
  event_steps (event.Waiting cpu c) h = calm_steps plan m S (event.Waiting cpu c) (waits_quietly plan S c.kind c.count c.a c.b c.c (waiting_tells plan m S cpu c h).unmet) (λ x. refl)
  event_steps (event.Complete r s) h = shrink_steps (event.Complete r s) S.queues (do_deed plan (CompleteRequest r.id) S).queues (deed_shrinks plan (CompleteRequest r.id) S refl) (λ x. refl)
  event_steps (event.Posted agent p answer) h =
      post_steps plan m S agent p answer (both_right (same_option same_post (due_of m S agent) (Some p) && post_fits plan S agent p) (same_option same_handle (post_answer plan S agent p) answer) h) k
  event_steps (event.Start cpu c o r) h = calm_steps plan m S (event.Start cpu c o r) refl (λ x. refl)
  event_steps (event.Local cpu line) h = calm_steps plan m S (event.Local cpu line) refl (λ x. refl)
  event_steps (event.Log cpu v) h = calm_steps plan m S (event.Log cpu v) refl (λ x. refl)
  event_steps (event.Spend cpu n) h = calm_steps plan m S (event.Spend cpu n) refl (λ x. refl)
  event_steps (event.Register cpu a r v) h = calm_steps plan m S (event.Register cpu a r v) refl (λ x. refl)
  event_steps (event.Woke cpu c v) h = calm_steps plan m S (event.Woke cpu c v) refl (λ x. refl)
  event_steps (event.Park cpu f) h = calm_steps plan m S (event.Park cpu f) refl (λ x. refl)
  event_steps (event.Unpark cpu f) h = calm_steps plan m S (event.Unpark cpu f) refl (λ x. refl)
  event_steps (event.End cpu c o v) h = calm_steps plan m S (event.End cpu c o v) refl (λ x. refl)
  event_steps (event.Fault cpu x line) h = calm_steps plan m S (event.Fault cpu x line) refl (λ y. refl)
  event_steps (event.Stage d s i) h = calm_steps plan m S (event.Stage d s i) refl (λ x. refl)
  event_steps (event.Cleanup o) h = calm_steps plan m S (event.Cleanup o) refl (λ x. refl)
  event_steps (event.Destroy o) h = calm_steps plan m S (event.Destroy o) refl (λ x. refl)
  event_steps (event.Tick time) h = absurd (let z : ⊥ = cc in z)

  pub either_steps : (offered : List Event) (e : Event) → (may plan m S e ≡ true) ⊎ IsTick m S offered e → LineSteps e S.queues (after plan m S e).queues
  either_steps offered e (inl h) = event_steps e h
  either_steps offered e (inr t) = subst (λ (x : Event). LineSteps x S.queues (after plan m S x).queues) (sym t.tick) (shrink_steps (event.Tick (S.clock + 1)) S.queues S.queues (lines_same S.queues S.queues refl) (λ x. refl))
