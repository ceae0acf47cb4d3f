-- What a call does to the marks: one that gives its request up, sends it or unmarks it well leaves it without a mark.
use Rattle.std.proofs.Common.{if◌then◌else◌, ◌≡◌, ℕ, Bool, true, false, not, ◌&&◌, ◌||◌, List, [], ◌∷◌, refl, sym, ap, subst, ◌∙◌}
use Rattle.wdf_base.specs.declared.plan.Plan.{Plan}
use Rattle.wdf_base.specs.declared.value.Value.{Value}
use Rattle.wdf_base.specs.declared.value.Value.TheVariants.{Num, Stat}
use Rattle.wdf_base.specs.declared.value.Status.TheVariants as status
use Rattle.wdf_base.specs.declared.object.Mark.{Mark}
use Rattle.wdf_base.specs.declared.object.Mark.TheVariants as marks
use Rattle.wdf_base.specs.declared.object.Place.{Place}
use Rattle.wdf_base.specs.declared.object.Place.TheVariants as place
use Rattle.wdf_base.specs.declared.call.Arg.{Arg}
use Rattle.wdf_base.specs.declared.call.CallKind.{CallKind}
use Rattle.wdf_base.specs.declared.call.CallKind.TheVariants as call
use Rattle.wdf_base.specs.declared.event.Fault.TheVariants as fault
use Rattle.wdf_base.specs.Same.{same_call_kind}
use Rattle.wdf_base.specs.Places.{is_done, is_due, is_marked, is_owned}
use Rattle.wdf_model.specs.declared.entries.Request.{Request}
use Rattle.wdf_model.specs.parts.Control.{accepts, is_purged, mode_of}
use Rattle.wdf_model.specs.parts.Requests.{Requests, is_cancelled, mark_at, mark_of, moved, no_request, place_of, request_of, unmark_answer, unmarked, with_mark}
use Rattle.wdf_model.specs.parts.Requests as requests
use Rattle.wdf_model.specs.State.{State, object_in, withdrawn_place}
use Rattle.wdf_model.specs.Ids.{object_id}
use Rattle.wdf_model.specs.declared.deed.Deed.{Deed}
use Rattle.wdf_model.specs.declared.deed.Deed.TheVariants.{Acknowledge, CompleteRequest, Forward, GiveBack, Requeue, SendRequest, UnmarkRequest}
use Rattle.wdf_model.specs.rules.Deeds.{do_deed, do_deeds, give_up, give_up_if, queued}
use Rattle.wdf_model.specs.rules.Calls.{Outcome, acknowledge_outcome, forward_outcome, forwards_nowhere, may_send, number, origin_or_none, outcome, refused, requeue_outcome, send_outcome, success}
use Rattle.law_machine_base.specs.Fits.{all_fit, fits, is_given}
use Rattle.wdf_model.proofs.Tests.{both_left, not_false}
use Rattle.wdf_model.proofs.Maps.{entry_put_same}
use Rattle.law_machine_base.proofs.FitsOfCalls.{Clean}
use Rattle.law_machine_base.proofs.KeptByDeeds.{KeptIn, owned_of, owned_undone}
use Rattle.wdf_laws.specs.Events.{is_undoing}
use Rattle.law_machine_lives.proofs.ReasonsOfCalls.{call_of}
use Rattle.law_trace_requests.proofs.Quiet.{outcome_none}
use Rattle.law_trace_requests.proofs.Marks.{StillGoes, deed_still, deeds_still, completed_requests, enters_at_head, enters_at_tail, gives_back, is_armed, moves, withdrawn_unmarked}
use Rattle.wdf_base.specs.Values.{arg_is, is_one, is_success}

-- What is done keeps how the marks go with what the events say; and where the answer passes a test, this request has no
-- mark after it.
pub record Gives {A : Type 0} (plan : Plan) (S : State A) (o : Outcome) (r : ℕ) (t : Value → Bool) : Type 0 where
  pub still : StillGoes S.requests (do_deeds plan o.deeds S).requests
  pub off : t o.answer ≡ true → is_armed (mark_of (do_deeds plan o.deeds S).requests r) ≡ false

module _ {A : Type 0} (plan : Plan) (S : State A) (r : ℕ) (t : Value → Bool) where
  gives_if : (u : Bool) (o p : Outcome) → (u ≡ true → Gives plan S o r t) → (u ≡ false → Gives plan S p r t) → Gives plan S (if u then o else p) r t
  gives_if true o p h k = h refl
  gives_if false o p h k = k refl

  gives_nothing : (v : Value) → t v ≡ false → Gives plan S (record { answer = v; deeds = [] }) r t
  gives_nothing v e = record { still = λ m c b x g. g; off = λ h. absurd (let z : ⊥ = cc in z) }

  gives_by : (v : Value) (ds : List Deed) → StillGoes S.requests (do_deeds plan ds S).requests → is_armed (mark_of (do_deeds plan ds S).requests r) ≡ false → Gives plan S (record { answer = v; deeds = ds }) r t
  gives_by v ds h e = record { still = h; off = λ _. e }

moved_mark : (R : Requests) (r : ℕ) (p : Place) → mark_of (requests.move_to R r p) r ≡ mark_at p (mark_of R r)
moved_mark R r p = ap (λ q. q.info.mark) (entry_put_same no_request R.all r (moved p (request_of R r)))

away : (R : Requests) (r : ℕ) (p : Place) → mark_at p (mark_of R r) ≡ marks.Unmarked → is_armed (mark_of (requests.move_to R r p) r) ≡ false
away R r p e = ap is_armed (moved_mark R r p ∙ e)

back_off : {A : Type 0} (plan : Plan) (S : State A) (r q : ℕ) → is_armed (mark_of (do_deed plan (GiveBack (object_id r) (object_id q)) S).requests r) ≡ false
back_off plan S r q = away (requests.cancel (give_up S r).requests r) r (withdrawn_place plan (give_up S r) q r) (withdrawn_unmarked plan (give_up S r) q r _)

-- ---- the calls

pub given_first : {A : Type 0} (plan : Plan) (S : State A) (r q : ℕ) → all_fit plan (requeue_outcome S r q).deeds S ≡ true → is_given S r ≡ true
given_first plan S r q f = given_by (is_cancelled S.requests r || is_purged (mode_of S.control q)) f
  where
    given_by : (u : Bool) → all_fit plan (if u then success (GiveBack (object_id r) (object_id q) ∷ []) else success (Requeue (object_id r) (object_id q) ∷ [])).deeds S ≡ true → is_given S r ≡ true
    given_by true h = both_left (is_given S r) true h
    given_by false h = both_left (is_given S r) true h

requeue_gives : {A : Type 0} (plan : Plan) (S : State A) (r q : ℕ) (t : Value → Bool) → is_given S r ≡ true → Gives plan S (requeue_outcome S r q) r t
requeue_gives plan S r q t h =
    gives_if plan S r t (is_cancelled S.requests r || is_purged (mode_of S.control q)) (success (GiveBack (object_id r) (object_id q) ∷ [])) (success (Requeue (object_id r) (object_id q) ∷ []))
    (λ _. gives_by plan S r t (Stat status.Success) (GiveBack (object_id r) (object_id q) ∷ []) (gives_back plan S r q) (back_off plan S r q))
    (λ _. gives_by plan S r t (Stat status.Success) (Requeue (object_id r) (object_id q) ∷ []) (enters_at_head plan S r q (owned_of S r h)) (away (give_up S r).requests r (queued q) refl))

forward_gives : {A : Type 0} (plan : Plan) (S : State A) (r q : ℕ) → all_fit plan (forward_outcome plan S r q).deeds S ≡ true → Gives plan S (forward_outcome plan S r q) r is_success
forward_gives plan S r q f =
    gives_if plan S r is_success (forwards_nowhere plan S r q) (refused status.InvalidDeviceRequest)
    (if not (accepts S.control q) then refused status.WdfBusy else if is_cancelled S.requests r then success (GiveBack (object_id r) (object_id q) ∷ []) else success (Forward (object_id r) (object_id q) ∷ []))
    (λ _. gives_nothing plan S r is_success (Stat status.InvalidDeviceRequest) refl)
    (λ somewhere. gives_if plan S r is_success (not (accepts S.control q)) (refused status.WdfBusy) (if is_cancelled S.requests r then success (GiveBack (object_id r) (object_id q) ∷ []) else success (Forward (object_id r) (object_id q) ∷ []))
    (λ _. gives_nothing plan S r is_success (Stat status.WdfBusy) refl)
    (λ open_. gives_if plan S r is_success (is_cancelled S.requests r) (success (GiveBack (object_id r) (object_id q) ∷ [])) (success (Forward (object_id r) (object_id q) ∷ []))
    (λ _. gives_by plan S r is_success (Stat status.Success) (GiveBack (object_id r) (object_id q) ∷ []) (gives_back plan S r q) (back_off plan S r q))
    (λ there. gives_by plan S r is_success (Stat status.Success) (Forward (object_id r) (object_id q) ∷ [])
    (enters_at_tail plan S r q (owned_of S r (both_left (is_given S r) (accepts S.control q) (both_left (is_given S r && accepts S.control q) true (rw (somewhere, open_, there) at f)))))
    (away (give_up S r).requests r (queued q) refl))))

send_gives : {A : Type 0} {F B : ℕ → Bool} (plan : Plan) (S : State A) (r to : ℕ) (forget : Bool) → all_fit plan (send_outcome S r to forget).deeds S ≡ true → KeptIn F B S → Gives plan S (send_outcome S r to forget) r is_one
send_gives plan S r to forget f k =
    gives_if plan S r is_one (may_send S r to) (number 1 (SendRequest (object_id r) (object_id to) forget ∷ [])) (number 0 [])
    (λ may. gives_by plan S r is_one (Num 1) (SendRequest (object_id r) (object_id to) forget ∷ [])
    (deed_still plan (SendRequest (object_id r) (object_id to) forget) S refl (both_left (fits plan (SendRequest (object_id r) (object_id to) forget) S) true (rw may at f)) k)
    (away (give_up_if forget S r).requests r (place.Sent (record { 0 = to })) refl))
    (λ _. gives_nothing plan S r is_one (Num 0) refl)

unmarked_off : (k : Mark) → is_success (Stat (requests.answer_of_mark k)) ≡ true → is_armed (if is_marked k then marks.Unmarked else k) ≡ false
unmarked_off marks.Due h = absurd (let z : ⊥ = cc in z)
unmarked_off _ h = refl

mark_if : (q : Request) (u : Bool) → (if u then with_mark marks.Unmarked q else q).info.mark ≡ (if u then marks.Unmarked else q.info.mark)
mark_if q true = refl
mark_if q false = refl

unmark_gives : {A : Type 0} {F B : ℕ → Bool} (plan : Plan) (S : State A) (r : ℕ) → fits plan (UnmarkRequest (object_id r)) S ≡ true → KeptIn F B S
    → Gives plan S (record { answer = Stat (unmark_answer S.requests r); deeds = UnmarkRequest (object_id r) ∷ [] }) r is_success
unmark_gives plan S r f k = record {
  still = deed_still plan (UnmarkRequest (object_id r)) S refl f k;
  off = λ h.
      let here : mark_of (requests.unmark S.requests r) r ≡ (if is_marked (mark_of S.requests r) then marks.Unmarked else mark_of S.requests r) =
      ap (λ (q : Request). q.info.mark) (entry_put_same no_request S.requests.all r (unmarked (request_of S.requests r))) ∙ mark_if (request_of S.requests r) (is_marked (mark_of S.requests r)) in
      ap is_armed here ∙ unmarked_off (mark_of S.requests r) h;
}

no_mark : (k : Mark) → is_marked k ≡ false → is_due k ≡ false → is_armed k ≡ false
no_mark marks.Marked h d = absurd (let z : ⊥ = cc in z)
no_mark marks.Due h d = absurd (let z : ⊥ = cc in z)
no_mark marks.Taken h d = refl
no_mark marks.Unmarked h d = refl

-- a request without a mark that may be completed
pub completes_still : (R : Requests) (r : ℕ) → is_done (place_of R r) ≡ false → is_armed (mark_of R r) ≡ false → StillGoes R (requests.move_to R r place.Done)
completes_still R r undone off = moves R r place.Done undone (λ _. off)

pub completes_off : (R : Requests) (r : ℕ) → is_armed (mark_of R r) ≡ false → is_armed (mark_of (requests.move_to R r place.Done) r) ≡ false
completes_off R r off = ap is_armed (moved_mark R r place.Done) ∙ off

complete_gives : {A : Type 0} (plan : Plan) (S : State A) (r : ℕ) (t : Value → Bool) → is_done (place_of S.requests r) ≡ false → is_armed (mark_of S.requests r) ≡ false → Gives plan S (success (CompleteRequest (object_id r) ∷ [])) r t
complete_gives {A} plan S r t undone off = record {
  still = subst (λ (R : Requests). StillGoes S.requests R) (sym (completed_requests plan S r)) (completes_still S.requests r undone off);
  off = λ _. ap (λ (R : Requests). is_armed (mark_of R r)) (completed_requests plan S r) ∙ completes_off S.requests r off;
}

acknowledge_gives : {A : Type 0} (plan : Plan) (S : State A) (r : ℕ) (b : Arg) → all_fit plan (acknowledge_outcome S r b).deeds S ≡ true → Gives plan S (acknowledge_outcome S r b) r (λ _. not (arg_is b 0))
acknowledge_gives plan S r b f =
    gives_if plan S r (λ _. not (arg_is b 0)) (arg_is b 0) (success (Acknowledge (object_id r) ∷ [])) (requeue_outcome S r (origin_or_none S r))
    (λ kept. record { still = λ m c z x g. g; off = λ h. absurd (let n = rw kept at h in let z : ⊥ = cc in z) })
    (λ back. requeue_gives plan S r (origin_or_none S r) (λ _. not (arg_is b 0)) (given_first plan S r (origin_or_none S r) (rw back at f)))

-- every call but a marking
pub each_gives : {A : Type 0} {F B : ℕ → Bool} (plan : Plan) (S : State A) (cpu f : ℕ) (k : CallKind) (n : ℕ) (a b x : Arg) → same_call_kind k call.WdfRequestMarkCancelableEx ≡ false
    → Clean plan S cpu f (call_of k n a b x) → all_fit plan (outcome plan S cpu f (call_of k n a b x)).deeds S ≡ true → KeptIn F B S → Gives plan S (outcome plan S cpu f (call_of k n a b x)) (object_in a) (is_undoing (call_of k n a b x))
each_gives plan S cpu f call.WdfRequestMarkCancelableEx n a b x h clean fit k = absurd (let z : ⊥ = cc in z)
each_gives plan S cpu f call.WdfRequestComplete n a b x h clean fit k =
    complete_gives plan S (object_in a) (is_undoing (call_of call.WdfRequestComplete n a b x))
    (owned_undone (place_of S.requests (object_in a)) (not_false (is_owned (place_of S.requests (object_in a))) (clean fault.NotOwned)))
    (no_mark (mark_of S.requests (object_in a)) (clean fault.CompleteWhileMarked) (clean fault.CompleteBeforeCancelCallback))
each_gives plan S cpu f call.WdfRequestRequeue n a b x h clean fit k =
    requeue_gives plan S (object_in a) (origin_or_none S (object_in a)) (is_undoing (call_of call.WdfRequestRequeue n a b x)) (given_first plan S (object_in a) (origin_or_none S (object_in a)) fit)
each_gives plan S cpu f call.WdfRequestForwardToIoQueue n a b x h clean fit k = forward_gives plan S (object_in a) (object_in b) fit
each_gives plan S cpu f call.WdfRequestStopAcknowledge n a b x h clean fit k = acknowledge_gives plan S (object_in a) b fit
each_gives plan S cpu f call.WdfRequestSend n a b x h clean fit k = send_gives plan S (object_in a) (object_in b) (arg_is x 1) fit k
each_gives plan S cpu f call.WdfRequestUnmarkCancelable n a b x h clean fit k = unmark_gives plan S (object_in a) (both_left (fits plan (UnmarkRequest (object_id (object_in a))) S) true fit) k
each_gives plan S cpu f kind n a b x h clean fit k = record { still = deeds_still plan (outcome plan S cpu f (call_of kind n a b x)).deeds S (outcome_none plan S cpu f kind n a b x refl) fit k; off = λ t. absurd (let z : ⊥ = cc in z) }
