-- A call of a callback on its own request goes one of the walk's ways, with the answer that the walk knows.
use Rattle.std.proofs.Common.{if◌then◌else◌, ◌≡◌, ℕ, Bool, true, false, not, ◌||◌, List, [], ◌∷◌, ◌⊎◌, inl, inr, Option, option_map, refl, sym, ap, subst, ◌∙◌}
use Rattle.std.specs.Prelude.{⊤}
use Rattle.wdf_base.specs.declared.plan.Plan.{Plan}
use Rattle.wdf_base.specs.declared.value.Value.{Value}
use Rattle.wdf_base.specs.declared.value.Value.TheVariants.{Num, Stat}
use Rattle.wdf_base.specs.declared.value.Status.TheVariants as status
use Rattle.wdf_base.specs.declared.object.Mark.{Mark}
use Rattle.wdf_base.specs.declared.object.Mark.TheVariants as marks
use Rattle.wdf_base.specs.declared.call.Callback.TheVariants as callback
use Rattle.wdf_base.specs.declared.call.CallKind.TheVariants as call
use Rattle.wdf_base.specs.Places.{is_marked}
use Rattle.wdf_model.specs.declared.entries.Request.{Request}
use Rattle.wdf_model.specs.Ids.{object_id}
use Rattle.wdf_model.specs.Plans.{declares}
use Rattle.wdf_model.specs.parts.Requests.{Requests, answer_of_mark, is_cancelled, mark_answer, mark_of, marked, no_request, origin_of, request_of, unmark_answer, unmarked, with_mark}
use Rattle.wdf_model.specs.parts.Requests as requests
use Rattle.wdf_model.specs.parts.Control.{accepts, is_purged, mode_of}
use Rattle.wdf_model.specs.State.{State}
use Rattle.wdf_model.specs.declared.deed.Deed.TheVariants.{CompleteRequest, Forward, GiveBack, MarkRequest, Requeue, SendRequest, UnmarkRequest}
use Rattle.wdf_model.specs.rules.Deeds.{do_deeds}
use Rattle.wdf_model.specs.rules.Calls.{Outcome, forward_outcome, forwards_nowhere, mark_outcome, may_send, number, origin_or_none, refused, requeue_outcome, send_outcome, success}
use Rattle.wdf_model.proofs.Maps.{entry_put_same}
use Rattle.wdf_lint.specs.declared.state.Known.{Known}
use Rattle.wdf_lint.specs.declared.state.Known.TheVariants as known
use Rattle.wdf_lint.specs.declared.state.Hold.{Hold}
use Rattle.wdf_lint.specs.declared.state.Hold.TheVariants as hold
use Rattle.wdf_lint.specs.Steps.{Way, is_stop, way, ways}
use Rattle.wdf_lint.specs.Walks.{IsIn}
use Rattle.law_lint.proofs.Known.{KnownIs}
use Rattle.law_lint.proofs.Grips.{Cancelable, Owned, Spent, is_armed}

-- what a callback has of its request, by what a walk says
abbrev pub GripOf : Hold → Request → Type 0
GripOf hold.Own q = Owned q
GripOf hold.Marked q = Cancelable q ⊎ Spent q
GripOf hold.Away q = ⊤
GripOf hold.Stop q = ⊤

-- a request is in a callback's hands: it owns it, or it marked it and no cancel has come
abbrev pub InHand : Hold → Requests → ℕ → Type 0
InHand hold.Own R x = ⊤
InHand hold.Marked R x = is_marked (mark_of R x) ≡ true
InHand hold.Away R x = ⊥
InHand hold.Stop R x = ⊥

-- the state after a call, and its answer, are those of one of the ways
pub record Goes {A : Type 0} (plan : Plan) (S : State A) (r : ℕ) (h : Hold) (o : Outcome) (ws : List Way) : Type 0 where
  pub way : Way
  pub is_in : IsIn way ws
  pub answered : KnownIs way.answer o.answer
  pub grips : GripOf way.hold (request_of (do_deeds plan o.deeds S).requests r)
  pub before : InHand way.hold (do_deeds plan o.deeds S).requests r → InHand h S.requests r
  -- none leads to the hold of EvtIoStop, and what it still has is of the same queue
  pub not_stop : is_stop way.hold ≡ false
  pub origin : InHand way.hold (do_deeds plan o.deeds S).requests r → origin_of (do_deeds plan o.deeds S).requests r ≡ origin_of S.requests r

-- a way by which the request is given up
gone : {A : Type 0} (plan : Plan) (S : State A) (r : ℕ) (h : Hold) (o : Outcome) (ws : List Way) (v : Known) → IsIn (way hold.Away v) ws → KnownIs v o.answer → Goes plan S r h o ws
gone plan S r h o ws v is knows = record { way = way hold.Away v; is_in = is; answered = knows; grips = tt; before = λ i. absurd i; not_stop = refl; origin = λ i. absurd i }

-- a way by which nothing happens
kept : {A : Type 0} (plan : Plan) (S : State A) (r : ℕ) (answer : Value) (ws : List Way) (v : Known) → IsIn (way hold.Own v) ws → KnownIs v answer → Owned (request_of S.requests r) → Goes plan S r hold.Own (record { answer = answer; deeds = [] }) ws
kept plan S r answer ws v is knows own = record { way = way hold.Own v; is_in = is; answered = knows; grips = own; before = λ i. tt; not_stop = refl; origin = λ i. refl }

either_goes : {A : Type 0} (plan : Plan) (S : State A) (r : ℕ) (h : Hold) (b : Bool) (x y : Outcome) (ws : List Way) → (b ≡ true → Goes plan S r h x ws) → (b ≡ false → Goes plan S r h y ws) → Goes plan S r h (if b then x else y) ws
either_goes plan S r o true x y ws h k = h refl
either_goes plan S r o false x y ws h k = k refl

-- a call that gives the request up
pub requeue_goes : {A : Type 0} (plan : Plan) (S : State A) (r q : ℕ) → Goes plan S r hold.Own (requeue_outcome S r q) (ways call.WdfRequestRequeue hold.Own)
requeue_goes plan S r q = either_goes plan S r hold.Own (is_cancelled S.requests r || is_purged (mode_of S.control q)) (success (GiveBack (object_id r) (object_id q) ∷ [])) (success (Requeue (object_id r) (object_id q) ∷ [])) (ways call.WdfRequestRequeue hold.Own)
    (λ e. gone plan S r hold.Own (success (GiveBack (object_id r) (object_id q) ∷ [])) (ways call.WdfRequestRequeue hold.Own) known.Unknown (0, refl) tt)
    (λ e. gone plan S r hold.Own (success (Requeue (object_id r) (object_id q) ∷ [])) (ways call.WdfRequestRequeue hold.Own) known.Unknown (0, refl) tt)

pub complete_goes : {A : Type 0} (plan : Plan) (S : State A) (r : ℕ) → Goes plan S r hold.Own (success (CompleteRequest (object_id r) ∷ [])) (ways call.WdfRequestComplete hold.Own)
complete_goes plan S r = gone plan S r hold.Own (success (CompleteRequest (object_id r) ∷ [])) (ways call.WdfRequestComplete hold.Own) known.Unknown (0, refl) tt

pub forward_goes : {A : Type 0} (plan : Plan) (S : State A) (r q : ℕ) → Owned (request_of S.requests r) → Goes plan S r hold.Own (forward_outcome plan S r q) (ways call.WdfRequestForwardToIoQueue hold.Own)
forward_goes plan S r q own = either_goes plan S r hold.Own (forwards_nowhere plan S r q) (refused status.InvalidDeviceRequest) (if not (accepts S.control q) then refused status.WdfBusy else if is_cancelled S.requests r then success (GiveBack (object_id r) (object_id q) ∷ []) else success (Forward (object_id r) (object_id q) ∷ [])) (ways call.WdfRequestForwardToIoQueue hold.Own)
    (λ e. kept plan S r (Stat status.InvalidDeviceRequest) (ways call.WdfRequestForwardToIoQueue hold.Own) (known.Stat status.InvalidDeviceRequest) (1, refl) refl own)
    (λ e. either_goes plan S r hold.Own (not (accepts S.control q)) (refused status.WdfBusy) (if is_cancelled S.requests r then success (GiveBack (object_id r) (object_id q) ∷ []) else success (Forward (object_id r) (object_id q) ∷ [])) (ways call.WdfRequestForwardToIoQueue hold.Own)
    (λ e. kept plan S r (Stat status.WdfBusy) (ways call.WdfRequestForwardToIoQueue hold.Own) (known.Stat status.WdfBusy) (2, refl) refl own)
    (λ e. either_goes plan S r hold.Own (is_cancelled S.requests r) (success (GiveBack (object_id r) (object_id q) ∷ [])) (success (Forward (object_id r) (object_id q) ∷ [])) (ways call.WdfRequestForwardToIoQueue hold.Own)
    (λ e. gone plan S r hold.Own (success (GiveBack (object_id r) (object_id q) ∷ [])) (ways call.WdfRequestForwardToIoQueue hold.Own) (known.Stat status.Success) (0, refl) refl)
    (λ e. gone plan S r hold.Own (success (Forward (object_id r) (object_id q) ∷ [])) (ways call.WdfRequestForwardToIoQueue hold.Own) (known.Stat status.Success) (0, refl) refl)))

pub send_goes : {A : Type 0} (plan : Plan) (S : State A) (r t : ℕ) (forget : Bool) → Owned (request_of S.requests r) → Goes plan S r hold.Own (send_outcome S r t forget) (ways call.WdfRequestSend hold.Own)
send_goes plan S r t forget own = either_goes plan S r hold.Own (may_send S r t) (number 1 (SendRequest (object_id r) (object_id t) forget ∷ [])) (number 0 []) (ways call.WdfRequestSend hold.Own)
    (λ e. gone plan S r hold.Own (number 1 (SendRequest (object_id r) (object_id t) forget ∷ [])) (ways call.WdfRequestSend hold.Own) known.One (0, refl) refl)
    (λ e. kept plan S r (Num 0) (ways call.WdfRequestSend hold.Own) known.Zero (1, refl) refl own)

-- ---- marks

-- a mark leaves the queue from which a request came
abbrev pub origin_in : Request → Option ℕ
origin_in q = option_map (λ o. o.0) q.info.origin

marking_by : (q : Request) (b : Bool) → origin_in (if b then q else with_mark marks.Marked q) ≡ origin_in q
marking_by q true = refl
marking_by q false = refl

marking_stays : (R : Requests) (r : ℕ) → origin_of (requests.mark R r) r ≡ origin_of R r
marking_stays R r = ap origin_in (entry_put_same no_request R.all r (marked (request_of R r))) ∙ marking_by (request_of R r) (request_of R r).info.cancelled

unmarking_by : (q : Request) (b : Bool) → origin_in (if b then with_mark marks.Unmarked q else q) ≡ origin_in q
unmarking_by q true = refl
unmarking_by q false = refl

unmarking_stays : (R : Requests) (r : ℕ) → origin_of (requests.unmark R r) r ≡ origin_of R r
unmarking_stays R r = ap origin_in (entry_put_same no_request R.all r (unmarked (request_of R r))) ∙ unmarking_by (request_of R r) (is_marked (mark_of R r))

marked_cancelled : (q : Request) (b : Bool) → q.info.cancelled ≡ b → b ≡ true → Owned q → Owned (if b then q else with_mark marks.Marked q)
marked_cancelled q true e f own = own
marked_cancelled q false e f own = absurd (let z : ⊥ = cc in z)

marked_live : (q : Request) (b : Bool) → q.info.cancelled ≡ b → b ≡ false → Owned q → Cancelable (if b then q else with_mark marks.Marked q)
marked_live q false e f own = record { owned = own.owned; marked = refl; live = e; came = own.came }
marked_live q true e f own = absurd (let z : ⊥ = cc in z)

mark_answered : {A : Type 0} (plan : Plan) (S : State A) (r : ℕ) (b : Bool) → is_cancelled S.requests r ≡ b → Owned (request_of S.requests r)
    → Goes plan S r hold.Own (record { answer = Stat (if b then status.Cancelled else status.Success); deeds = MarkRequest (object_id r) ∷ [] }) (ways call.WdfRequestMarkCancelableEx hold.Own)
mark_answered plan S r true e own = record {
  way = way hold.Own (known.Stat status.Cancelled);
  is_in = (1, refl);
  answered = refl;
  grips = subst Owned (sym (entry_put_same no_request S.requests.all r (marked (request_of S.requests r)))) (marked_cancelled (request_of S.requests r) (request_of S.requests r).info.cancelled refl e own);
  before = λ i. tt;
  not_stop = refl;
  origin = λ i. marking_stays S.requests r;
}
mark_answered plan S r false e own = record {
  way = way hold.Marked (known.Stat status.Success);
  is_in = (0, refl);
  answered = refl;
  grips = inl (subst Cancelable (sym (entry_put_same no_request S.requests.all r (marked (request_of S.requests r)))) (marked_live (request_of S.requests r) (request_of S.requests r).info.cancelled refl e own));
  before = λ i. tt;
  not_stop = refl;
  origin = λ i. marking_stays S.requests r;
}

pub mark_goes : {A : Type 0} (plan : Plan) (S : State A) (r : ℕ) → Owned (request_of S.requests r) → Goes plan S r hold.Own (mark_outcome plan S r) (ways call.WdfRequestMarkCancelableEx hold.Own)
mark_goes plan S r own = either_goes plan S r hold.Own (declares plan callback.EvtRequestCancel (origin_or_none S r)) (record { answer = Stat (mark_answer S.requests r); deeds = MarkRequest (object_id r) ∷ [] }) (refused status.InvalidDeviceRequest) (ways call.WdfRequestMarkCancelableEx hold.Own)
    (λ e. mark_answered plan S r (is_cancelled S.requests r) refl own)
    (λ e. kept plan S r (Stat status.InvalidDeviceRequest) (ways call.WdfRequestMarkCancelableEx hold.Own) (known.Stat status.InvalidDeviceRequest) (2, refl) refl own)

-- ---- unmarking

abbrev unmarking : {A : Type 0} → State A → ℕ → Outcome
unmarking S r = record { answer = Stat (unmark_answer S.requests r); deeds = UnmarkRequest (object_id r) ∷ [] }

unmarked_owned : (q : Request) (b : Bool) → is_marked q.info.mark ≡ b → b ≡ false → Owned q → Owned (if b then with_mark marks.Unmarked q else q)
unmarked_owned q true e f own = absurd (let z : ⊥ = cc in z)
unmarked_owned q false e f own = own

unarmed : (m : Mark) → is_armed m ≡ false → is_marked m ≡ false
unarmed marks.Marked h = absurd (let z : ⊥ = cc in z)
unarmed marks.Due h = refl
unarmed marks.Taken h = refl
unarmed marks.Unmarked h = refl

unmark_owned : {A : Type 0} (plan : Plan) (S : State A) (r : ℕ) (m : Mark) → mark_of S.requests r ≡ m → Owned (request_of S.requests r)
    → Owned (request_of (requests.unmark S.requests r) r) → Goes plan S r hold.Own (record { answer = Stat (answer_of_mark m); deeds = UnmarkRequest (object_id r) ∷ [] }) (ways call.WdfRequestUnmarkCancelable hold.Own)
unmark_owned plan S r marks.Marked e own after = absurd (let off = own.off in let no : is_armed (mark_of S.requests r) ≡ true = rw e refl in let z : ⊥ = cc in z)
unmark_owned plan S r marks.Due e own after = absurd (let off = own.off in let no : is_armed (mark_of S.requests r) ≡ true = rw e refl in let z : ⊥ = cc in z)
unmark_owned plan S r marks.Taken e own after = record { way = way hold.Own (known.Stat status.Cancelled); is_in = (0, refl); answered = refl; grips = after; before = λ i. tt; not_stop = refl; origin = λ i. unmarking_stays S.requests r }
unmark_owned plan S r marks.Unmarked e own after = record { way = way hold.Own (known.Stat status.InvalidDeviceRequest); is_in = (1, refl); answered = refl; grips = after; before = λ i. tt; not_stop = refl; origin = λ i. unmarking_stays S.requests r }

pub unmark_owned_goes : {A : Type 0} (plan : Plan) (S : State A) (r : ℕ) → Owned (request_of S.requests r) → Goes plan S r hold.Own (unmarking S r) (ways call.WdfRequestUnmarkCancelable hold.Own)
unmark_owned_goes plan S r own = unmark_owned plan S r (mark_of S.requests r) refl own
    (subst Owned (sym (entry_put_same no_request S.requests.all r (unmarked (request_of S.requests r))))
    (unmarked_owned (request_of S.requests r) (is_marked (mark_of S.requests r)) refl (unarmed (mark_of S.requests r) own.off) own))

unmarked_cancelable : (q : Request) (b : Bool) → is_marked q.info.mark ≡ b → b ≡ true → Cancelable q → Owned (if b then with_mark marks.Unmarked q else q)
unmarked_cancelable q true e f c = record { owned = c.owned; off = refl; came = c.came }
unmarked_cancelable q false e f c = absurd (let z : ⊥ = cc in z)

unmark_cancelable : {A : Type 0} (plan : Plan) (S : State A) (r : ℕ) (m : Mark) → mark_of S.requests r ≡ m → is_marked m ≡ true → is_marked (mark_of S.requests r) ≡ true → Owned (request_of (requests.unmark S.requests r) r)
    → Goes plan S r hold.Marked (record { answer = Stat (answer_of_mark m); deeds = UnmarkRequest (object_id r) ∷ [] }) (ways call.WdfRequestUnmarkCancelable hold.Marked)
unmark_cancelable plan S r marks.Marked e is was after = record { way = way hold.Own (known.Stat status.Success); is_in = (0, refl); answered = refl; grips = after; before = λ i. was; not_stop = refl; origin = λ i. unmarking_stays S.requests r }
unmark_cancelable plan S r _ e is was after = absurd (let z : ⊥ = cc in z)

unmark_spent : {A : Type 0} (plan : Plan) (S : State A) (r : ℕ) (m : Mark) → is_marked m ≡ false
    → Goes plan S r hold.Marked (record { answer = Stat (answer_of_mark m); deeds = UnmarkRequest (object_id r) ∷ [] }) (ways call.WdfRequestUnmarkCancelable hold.Marked)
unmark_spent plan S r marks.Marked off = absurd (let z : ⊥ = cc in z)
unmark_spent plan S r marks.Due off = record { way = way hold.Away (known.Stat status.Cancelled); is_in = (1, refl); answered = refl; grips = tt; before = λ i. absurd i; not_stop = refl; origin = λ i. absurd i }
unmark_spent plan S r marks.Taken off = record { way = way hold.Away (known.Stat status.Cancelled); is_in = (1, refl); answered = refl; grips = tt; before = λ i. absurd i; not_stop = refl; origin = λ i. absurd i }
unmark_spent plan S r marks.Unmarked off = record { way = way hold.Away (known.Stat status.InvalidDeviceRequest); is_in = (2, refl); answered = refl; grips = tt; before = λ i. absurd i; not_stop = refl; origin = λ i. absurd i }

pub unmark_marked_goes : {A : Type 0} (plan : Plan) (S : State A) (r : ℕ) → Cancelable (request_of S.requests r) ⊎ Spent (request_of S.requests r) → Goes plan S r hold.Marked (unmarking S r) (ways call.WdfRequestUnmarkCancelable hold.Marked)
unmark_marked_goes plan S r (inl c) = unmark_cancelable plan S r (mark_of S.requests r) refl c.marked c.marked
    (subst Owned (sym (entry_put_same no_request S.requests.all r (unmarked (request_of S.requests r)))) (unmarked_cancelable (request_of S.requests r) (is_marked (mark_of S.requests r)) refl c.marked c))
unmark_marked_goes plan S r (inr s) = unmark_spent plan S r (mark_of S.requests r) s.off
