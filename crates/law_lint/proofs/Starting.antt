-- Where the request of a callback comes from that begins, and what is so of it where that is EvtIoStop.
use Rattle.std.proofs.Common.{◌≡◌, ℕ, Bool, true, false, not, ◌&&◌, Option, Some, None, option_map, refl, ap, ◌∙◌}
use Rattle.std.proofs.lemmas.Bool.{eqb-true}
use Rattle.wdf_base.specs.Meaning.{Meaning}
use Rattle.wdf_base.specs.Callbacks.{row_of}
use Rattle.wdf_base.specs.Places.{is_due, is_owned, is_queued_in, is_returning_to, is_sent, is_sent_to}
use Rattle.wdf_base.specs.declared.call.Callback.{Callback}
use Rattle.wdf_base.specs.declared.call.Callback.TheVariants as callback
use Rattle.wdf_base.specs.declared.ids.Handle.{Handle}
use Rattle.wdf_base.specs.declared.ids.ObjectId.{ObjectId}
use Rattle.wdf_base.specs.declared.object.Mark.TheVariants as marks
use Rattle.wdf_base.specs.declared.object.Place.{Place}
use Rattle.wdf_base.specs.declared.object.Place.TheVariants as place
use Rattle.wdf_base.specs.declared.plan.Plan.{Plan}
use Rattle.wdf_base.specs.declared.rank.CallbackLock.TheVariants as callback_lock
use Rattle.wdf_model.specs.Plans.{is_managed}
use Rattle.wdf_model.specs.Tables.{same_id}
use Rattle.wdf_model.specs.declared.entries.Holding.{Holding}
use Rattle.wdf_model.specs.declared.entries.Request.{Request}
use Rattle.wdf_model.specs.parts.Power.{stop_was_asked}
use Rattle.wdf_model.specs.parts.Queues.{front}
use Rattle.wdf_model.specs.parts.Requests.{Requests, mark_of, moved, no_request, origin_from, origin_of, place_of, request_of, with_mark}
use Rattle.wdf_model.specs.parts.Requests as requests
use Rattle.wdf_model.specs.State.{State, held_at, is_held_from, is_with_driver}
use Rattle.wdf_model.specs.rules.Deeds.{do_deeds}
use Rattle.wdf_model.specs.rules.Starts.{effect_for, is_ready_for, presents, rank_ready_for, stop_is_due}
use Rattle.wdf_model.proofs.Maps.{entry_put_same}
use Rattle.wdf_model.proofs.Tests.{both_left, both_right, not_true}
use Rattle.law_machine_base.proofs.KeptMoves.{front_queued}
use Rattle.wdf_lint.specs.declared.state.Hold.{Hold}
use Rattle.wdf_lint.specs.declared.state.Hold.TheVariants as hold
use Rattle.wdf_lint.specs.Abstracts.{hold_at_start}
use Rattle.wdf_lint.specs.Steps.{is_own_or_marked, is_stop}
use Rattle.law_lint.proofs.Calls.{InHand, origin_in}
use Rattle.law_lint.proofs.Others.{Places}
use Rattle.law_machine_counts.proofs.StepTable.{top_is}

-- a hold of what is in its hands
pub begins_with : (h : Hold) (R : Requests) (x : ℕ) → InHand h R x → is_own_or_marked h ≡ true
begins_with hold.Own R x i = refl
begins_with hold.Marked R x i = refl
begins_with hold.Away R x i = absurd i
begins_with hold.Stop R x i = absurd i

from_queue : (q : Request) (o : ℕ) → is_queued_in o q.place ≡ true → origin_in (moved place.Owned q) ≡ Some o
from_queue q o h = by q.place refl h
  where
    by : (x : Place) → q.place ≡ x → is_queued_in o x ≡ true → option_map (λ (i : ObjectId). i.0) (origin_from q.place place.Owned q.info.origin) ≡ Some o
    by (place.Queued w) e h = ap (λ x. option_map (λ (i : ObjectId). i.0) (origin_from x place.Owned q.info.origin)) e ∙ ap Some (eqb-true w.0 o h)
    by place.Owned e h = absurd (let z : ⊥ = cc in z)
    by (place.Returning w) e h = absurd (let z : ⊥ = cc in z)
    by (place.Closing w) e h = absurd (let z : ⊥ = cc in z)
    by (place.Sent w) e h = absurd (let z : ⊥ = cc in z)
    by place.Done e h = absurd (let z : ⊥ = cc in z)

from_return : (q : Request) (o : ℕ) → is_returning_to o q.place ≡ true → origin_in (moved place.Owned q) ≡ Some o
from_return q o h = by q.place refl h
  where
    by : (x : Place) → q.place ≡ x → is_returning_to o x ≡ true → option_map (λ (i : ObjectId). i.0) (origin_from q.place place.Owned q.info.origin) ≡ Some o
    by (place.Returning w) e h = ap (λ x. option_map (λ (i : ObjectId). i.0) (origin_from x place.Owned q.info.origin)) e ∙ ap Some (eqb-true w.0 o h)
    by place.Owned e h = absurd (let z : ⊥ = cc in z)
    by (place.Queued w) e h = absurd (let z : ⊥ = cc in z)
    by (place.Closing w) e h = absurd (let z : ⊥ = cc in z)
    by (place.Sent w) e h = absurd (let z : ⊥ = cc in z)
    by place.Done e h = absurd (let z : ⊥ = cc in z)

-- where a request comes from that a callback gets, but for one that was sent
module _ {A : Type 0} (plan : Plan) (S : State A) (places : Places S) where
  handled : (c : Callback) (o r : ℕ) → presents plan S c o r ≡ true → origin_of (requests.move_to S.requests r place.Owned) r ≡ Some o
  handled c o r h =
      ap origin_in (entry_put_same no_request S.requests.all r (moved place.Owned (request_of S.requests r)))
      ∙ from_queue (request_of S.requests r) o (front_queued o r places (both_right _ (same_id (front S.queues o) r) (both_left (_ && same_id (front S.queues o) r) _ h)))

  returned : (o r : ℕ) → is_returning_to o (place_of S.requests r) ≡ true → origin_of (requests.move_to S.requests r place.Owned) r ≡ Some o
  returned o r h =
      ap origin_in (entry_put_same no_request S.requests.all r (moved place.Owned (request_of S.requests r)))
      ∙ from_return (request_of S.requests r) o h

  cancelled : (o r : ℕ) → (is_due (mark_of S.requests r) && is_held_from S o r) ≡ true → origin_of (requests.take_cancel S.requests r) r ≡ Some o
  cancelled o r h =
      ap origin_in (entry_put_same no_request S.requests.all r (with_mark marks.Taken (request_of S.requests r)))
      ∙ top_is (origin_of S.requests r) o (both_left (same_id (origin_of S.requests r) o) (is_with_driver S r) (both_right (is_due (mark_of S.requests r)) (is_held_from S o r) h))

  sent_there : (p : Place) (o : ℕ) → is_sent_to o p ≡ true → is_sent p ≡ true
  sent_there (place.Sent t) o h = refl
  sent_there _ o h = absurd (let z : ⊥ = cc in z)

  -- and its callback takes the queue's lock
  pub came_from : (c : Callback) (o r : ℕ) → is_own_or_marked (hold_at_start c) ≡ true → rank_ready_for plan S (row_of c).rank c o r ≡ true → is_sent (place_of S.requests r) ≡ false
      → (origin_of (do_deeds plan (effect_for (row_of c).rank o r) S).requests r ≡ Some o) × ((row_of c).lock ≡ callback_lock.QueueLock)
  came_from callback.EvtIoRead o r own h off = (handled callback.EvtIoRead o r h, refl)
  came_from callback.EvtIoWrite o r own h off = (handled callback.EvtIoWrite o r h, refl)
  came_from callback.EvtIoDeviceControl o r own h off = (handled callback.EvtIoDeviceControl o r h, refl)
  came_from callback.EvtIoDefault o r own h off = (handled callback.EvtIoDefault o r h, refl)
  came_from callback.EvtRequestCancel o r own h off = (cancelled o r h, refl)
  came_from callback.EvtIoCanceledOnQueue o r own h off = (returned o r h, refl)
  came_from callback.EvtRequestCompletion o r own h off = absurd (let yes = sent_there (place_of S.requests r) o (both_left (is_sent_to o (place_of S.requests r)) _ h) in let z : ⊥ = cc in z)
  came_from _ o r own h off = absurd (let z : ⊥ = cc in z)

-- ---- an EvtIoStop begins

pub stop_callback : (c : Callback) → is_stop (hold_at_start c) ≡ true → c ≡ callback.EvtIoStop
stop_callback callback.EvtIoStop h = refl
stop_callback callback.EvtIoRead h = absurd (let z : ⊥ = cc in z)
stop_callback callback.EvtIoWrite h = absurd (let z : ⊥ = cc in z)
stop_callback callback.EvtIoDeviceControl h = absurd (let z : ⊥ = cc in z)
stop_callback callback.EvtIoDefault h = absurd (let z : ⊥ = cc in z)
stop_callback callback.EvtRequestCancel h = absurd (let z : ⊥ = cc in z)
stop_callback callback.EvtIoCanceledOnQueue h = absurd (let z : ⊥ = cc in z)
stop_callback callback.EvtRequestCompletion h = absurd (let z : ⊥ = cc in z)
stop_callback _ h = absurd (let z : ⊥ = cc in z)

pub stop_due : {A : Type 0} (plan : Plan) (m : Meaning A) (S : State A) (cpu o : ℕ) (r : Option Handle) → is_ready_for plan m S cpu callback.EvtIoStop o r ≡ true → (q : Handle) × (r ≡ Some q) × (stop_is_due plan S o q.id.0 ≡ true)
stop_due plan m S cpu o None h = absurd (let z : ⊥ = cc in z)
stop_due plan m S cpu o (Some q) h = (q, refl, h)

pub held_parts : {A : Type 0} (plan : Plan) (S : State A) (o r : ℕ) → stop_is_due plan S o r ≡ true → (same_id (origin_of S.requests r) o ≡ true) × (is_with_driver S r ≡ true) × (stop_was_asked S.power r ≡ false)
held_parts plan S o r h =
    let three = both_left (is_managed plan o && is_held_from S o r && not (stop_was_asked S.power r)) _ h in
    let two = both_left (is_managed plan o && is_held_from S o r) (not (stop_was_asked S.power r)) three in
    let held = both_right (is_managed plan o) (is_held_from S o r) two in (
      both_left (same_id (origin_of S.requests r) o) (is_with_driver S r) held,
      both_right (same_id (origin_of S.requests r) o) (is_with_driver S r) held,
      not_true (stop_was_asked S.power r) (both_right (is_managed plan o && is_held_from S o r) (not (stop_was_asked S.power r)) three),
    )

pub owned_held : (away : Bool) (p : Place) → held_at away p ≡ true → is_sent p ≡ false → is_owned p ≡ true
owned_held away place.Owned h off = refl
owned_held away (place.Sent t) h off = absurd (let z : ⊥ = cc in z)
owned_held away (place.Queued q) h off = absurd (let z : ⊥ = cc in z)
owned_held away (place.Returning q) h off = absurd (let z : ⊥ = cc in z)
owned_held away (place.Closing s) h off = absurd (let z : ⊥ = cc in z)
owned_held away place.Done h off = absurd (let z : ⊥ = cc in z)

-- what wasn't asked isn't acknowledged
pub unasked : (h : Holding) → (h.acknowledged ≡ true → h.stop_asked ≡ true) → h.stop_asked ≡ false → h.acknowledged ≡ false
unasked h fine off = by h.acknowledged refl
  where
    by : (b : Bool) → h.acknowledged ≡ b → b ≡ false
    by true e = absurd (let yes = fine e in let z : ⊥ = cc in z)
    by false e = refl
