-- Of a callback's own request: from which queue it is, where nothing sends; and what an EvtIoStop that may acknowledge has of it.
use Rattle.std.proofs.Common.{◌≡◌, ℕ, Bool, true, false, inl, inr, Option, Some, None, is_none, option_map, refl, sym, ap, subst, ◌∙◌}
use Rattle.wdf_base.specs.Callbacks.{row_of}
use Rattle.wdf_base.specs.Places.{is_owned}
use Rattle.wdf_base.specs.Resolved.{IsResolved}
use Rattle.wdf_base.specs.declared.call.Callback.TheVariants as callback
use Rattle.wdf_base.specs.declared.frame.Frame.{Frame}
use Rattle.wdf_base.specs.declared.ids.Handle.{Handle}
use Rattle.wdf_base.specs.declared.ids.ObjectId.{ObjectId}
use Rattle.wdf_base.specs.declared.plan.Plan.{Plan}
use Rattle.wdf_base.specs.declared.rank.CallbackLock.TheVariants as callback_lock
use Rattle.wdf_model.specs.declared.entries.Request.{Request}
use Rattle.wdf_model.specs.parts.Power.{Power, acknowledged, stop_was_asked}
use Rattle.wdf_model.specs.parts.Requests.{Requests, origin_of, place_of, request_of}
use Rattle.wdf_lint.specs.declared.state.Abstract.{Abstract}
use Rattle.wdf_lint.specs.declared.state.Hold.{Hold}
use Rattle.wdf_lint.specs.declared.state.Hold.TheVariants as hold
use Rattle.wdf_lint.specs.Abstracts.{owner_of, plan_sends}
use Rattle.wdf_lint.specs.Steps.{is_scoped_queue, is_stop}
use Rattle.law_lint.proofs.Began.{Alike}
use Rattle.law_lint.proofs.Calls.{GripOf, InHand}
use Rattle.law_lint.proofs.Flags.{FlagsKept}
use Rattle.law_lint.proofs.Grips.{Later, LaterAt}

-- ---- what others make of a request

pub grip_later : (h : Hold) (p q : Request) → Later p q → GripOf h p → GripOf h q
grip_later hold.Own p q l g = l.owned g
grip_later hold.Marked p q l (inl c) = l.cancelable c
grip_later hold.Marked p q l (inr s) = inr (l.spent s)
grip_later hold.Away p q l g = tt
grip_later hold.Stop p q l g = tt

-- what is in a frame's hands then was in its hands before
pub hand_before : (h : Hold) (R U : Requests) (x : ℕ) → Later (request_of R x) (request_of U x) → GripOf h (request_of R x) → InHand h U x → InHand h R x
hand_before hold.Own R U x l g i = tt
hand_before hold.Marked R U x l (inl c) i = c.marked
hand_before hold.Marked R U x l (inr s) i = absurd (let t = l.spent s in let off = t.off in let z : ⊥ = cc in z)
hand_before hold.Away R U x l g i = i
hand_before hold.Stop R U x l g i = i

-- and is of the same queue
pub hand_origin : (h : Hold) (R U : Requests) (x : ℕ) → Later (request_of R x) (request_of U x) → GripOf h (request_of R x) → InHand h U x → origin_of U x ≡ origin_of R x
hand_origin hold.Own R U x l g i = ap (option_map (λ (q : ObjectId). q.0)) (l.rests g.owned g.came).1
hand_origin hold.Marked R U x l (inl c) i = ap (option_map (λ (q : ObjectId). q.0)) (l.rests c.owned c.came).1
hand_origin hold.Marked R U x l (inr s) i = absurd (let t = l.spent s in let off = t.off in let z : ⊥ = cc in z)
hand_origin hold.Away R U x l g i = absurd i
hand_origin hold.Stop R U x l g i = absurd i

-- ---- what is known of it

-- a script that may acknowledge: on a queue with a scope, and nothing is sent
pub record Guarded (plan : Plan) (k : ℕ) : Type 0 where
  pub resolved : IsResolved plan
  pub scoped : is_scoped_queue (owner_of plan k) ≡ true
  pub sends : plan_sends plan ≡ false

-- request x is of the frame's object, a queue, and its callback takes that queue's lock
pub record From (R : Requests) (frame : Frame) (x : ℕ) : Type 0 where
  pub origin : origin_of R x ≡ Some frame.object.id.0
  pub lock : (row_of frame.callback).lock ≡ callback_lock.QueueLock

-- a frame of EvtIoStop: the driver has its request, from its queue; the stop was asked, and where it isn't done it isn't acknowledged
pub record Stopping (R : Requests) (P : Power) (frame : Frame) (done : Bool) : Type 0 where
  pub request : Handle
  pub has : frame.request ≡ Some request
  pub calls : frame.callback ≡ callback.EvtIoStop
  pub owned : is_owned (place_of R request.id.0) ≡ true
  pub origin : origin_of R request.id.0 ≡ Some frame.object.id.0
  pub asked : stop_was_asked P request.id.0 ≡ true
  pub fresh : done ≡ false → acknowledged P request.id.0 ≡ false

-- by what a walk says of the frame
pub record OwnAs (plan : Plan) (R : Requests) (P : Power) (frame : Frame) (a : Abstract) : Type 0 where
  pub from : plan_sends plan ≡ false → (r : Handle) → frame.request ≡ Some r → InHand a.hold R r.id.0 → From R frame r.id.0
  pub stopping : Guarded plan frame.script → is_stop a.hold ≡ true → Stopping R P frame a.acknowledged

-- ---- another frame that is alike

pub from_alike : (R : Requests) (f g : Frame) (x : ℕ) → Alike f g → From R f x → From R g x
from_alike R f g x a k = record { origin = k.origin ∙ ap (λ (o : Handle). Some o.id.0) (sym a.object); lock = ap (λ c. (row_of c).lock) a.callback ∙ k.lock }

stopping_alike : (R : Requests) (P : Power) (f g : Frame) (done : Bool) → Alike f g → Stopping R P f done → Stopping R P g done
stopping_alike R P f g done a k = record {
  request = k.request;
  has = a.request ∙ k.has;
  calls = a.callback ∙ k.calls;
  owned = k.owned;
  origin = k.origin ∙ ap (λ (o : Handle). Some o.id.0) (sym a.object);
  asked = k.asked;
  fresh = k.fresh;
}

pub own_alike : (plan : Plan) (R : Requests) (P : Power) (f g : Frame) (a : Abstract) → Alike f g → OwnAs plan R P f a → OwnAs plan R P g a
own_alike plan R P f g a alike k = record {
  from = λ off r has i. from_alike R f g r.id.0 alike (k.from off r (sym alike.request ∙ has) i);
  stopping = λ guard is. stopping_alike R P f g a.acknowledged alike (k.stopping (subst (Guarded plan) alike.script guard) is);
}

-- ---- others act

pub has_origin : (o : Option ObjectId) (q : ℕ) → option_map (λ (i : ObjectId). i.0) o ≡ Some q → is_none o ≡ false
has_origin None q h = absurd (let z : ⊥ = cc in z)
has_origin (Some i) q h = refl

pub stopping_later : (R U : Requests) (P O : Power) (f : Frame) (done over fresh : Bool) → (k : Stopping R P f done) → (over ≡ false → (fresh ≡ true) × (done ≡ false))
    → Later (request_of R k.request.id.0) (request_of U k.request.id.0) → FlagsKept fresh P O k.request.id.0 → Stopping U O f over
stopping_later R U P O f done over fresh k ends later flags =
    let rests = later.rests k.owned (has_origin (request_of R k.request.id.0).info.origin f.object.id.0 k.origin) in
    record {
      request = k.request;
      has = k.has;
      calls = k.calls;
      owned = rests.0;
      origin = ap (option_map (λ (q : ObjectId). q.0)) rests.1 ∙ k.origin;
      asked = flags.asked k.asked;
      fresh = λ e. let both = ends e in flags.unacknowledged both.0 (k.fresh both.1);
    }

-- its flags are kept where a walk says that the frame is about to acknowledge, or has
abbrev pub Calms : Plan → Frame → Abstract → Bool → Power → Power → Type 0
Calms plan f a fresh P O = (r : Handle) → f.request ≡ Some r → Guarded plan f.script → is_stop a.hold ≡ true → FlagsKept fresh P O r.id.0

-- the frame goes on to another state of the walk, with the same hold
pub own_later : (plan : Plan) (R U : Requests) (P O : Power) (f : Frame) (a b : Abstract) (fresh : Bool) → b.hold ≡ a.hold → (b.acknowledged ≡ false → (fresh ≡ true) × (a.acknowledged ≡ false))
    → ((r : Handle) → f.request ≡ Some r → GripOf a.hold (request_of R r.id.0) × LaterAt r.id.0 R U) → Calms plan f a fresh P O → OwnAs plan R P f a → OwnAs plan U O f b
own_later plan R U P O f a b fresh same ends later calm k = record {
  from = λ off r has i.
      let l = later r has in
      let hand : InHand a.hold U r.id.0 = subst (λ h. InHand h U r.id.0) same i in
      let old = k.from off r has (hand_before a.hold R U r.id.0 l.1.later l.0 hand) in
      record { origin = hand_origin a.hold R U r.id.0 l.1.later l.0 hand ∙ old.origin; lock = old.lock };
  stopping = λ guard is.
      let stop : is_stop a.hold ≡ true = subst (λ h. is_stop h ≡ true) same is in
      let old = k.stopping guard stop in
      stopping_later R U P O f a.acknowledged b.acknowledged fresh old ends (later old.request old.has).1.later (calm old.request old.has guard stop);
}

-- and its frame goes on
pub own_answered : (plan : Plan) (R U : Requests) (P O : Power) (f g : Frame) (a b : Abstract) (fresh : Bool) → Alike f g → b.hold ≡ a.hold → (b.acknowledged ≡ false → (fresh ≡ true) × (a.acknowledged ≡ false))
    → ((r : Handle) → f.request ≡ Some r → GripOf a.hold (request_of R r.id.0) × LaterAt r.id.0 R U) → Calms plan f a fresh P O → OwnAs plan R P f a → OwnAs plan U O g b
own_answered plan R U P O f g a b fresh alike same ends later calm k = own_alike plan U O f g b alike (own_later plan R U P O f a b fresh same ends later calm k)

-- nothing that it speaks of changes
pub own_still : (plan : Plan) (R U : Requests) (P O : Power) (f g : Frame) (a b : Abstract) → U ≡ R → O ≡ P → Alike f g → b.hold ≡ a.hold → b.acknowledged ≡ a.acknowledged → OwnAs plan R P f a → OwnAs plan U O g b
own_still plan R U P O f g a b requests power alike holds done k =
    subst (λ (V : Requests). OwnAs plan V O g b) (sym requests)
    (subst (λ (Q : Power). OwnAs plan R Q g b) (sym power) (own_alike plan R P f g b alike (record {
      from = λ off r has i. k.from off r has (subst (λ h. InHand h R r.id.0) holds i);
      stopping = λ guard is. subst (Stopping R P f) (sym done) (k.stopping guard (subst (λ h. is_stop h ≡ true) holds is));
    })))
