-- Who holds a request after its place or its marks change.
use Rattle.std.proofs.Common.{if◌then◌else◌, ◌≡◌, ◌≢◌, ℕ, zero, suc, ◌<◌, Bool, true, false, List, [], ◌∷◌, Some, None, length, refl, ap, arith}
use Rattle.std.proofs.lemmas.Bool.{eqb-true}
use Rattle.wdf_base.specs.declared.value.Status.{Status}
use Rattle.wdf_base.specs.declared.value.Status.TheVariants as status
use Rattle.wdf_base.specs.declared.object.Place.{Place}
use Rattle.wdf_base.specs.declared.object.Place.TheVariants as place
use Rattle.wdf_base.specs.Places.{is_marked, is_owned, is_queued_in, is_returning_to, is_sent}
use Rattle.wdf_model.specs.declared.entries.Request.{Request}
use Rattle.wdf_model.specs.Tables.{put}
use Rattle.wdf_model.specs.parts.Requests.{Requests, marked, moved, request_of, unmarked, with_request}
use Rattle.wdf_model.specs.parts.Targets.{Targets, is_forgotten}
use Rattle.wdf_model.specs.State.{held_at}
use Rattle.wdf_model.specs.rules.Deeds.{finished_at}
use Rattle.law_machine_base.proofs.Kept.{is_made_place}
use Rattle.law_machine_base.proofs.KeptMoves.{request_elsewhere, request_here}
use Rattle.law_machine_counts.proofs.Holding.{held_by, holder}

-- ---- a write

pub put_inside : {X : Type 0} (blank : X) (xs : List X) (id : ℕ) (new : X) → id < length (put blank xs id new)
put_inside blank [] zero new = omega arith
put_inside blank [] (suc id) new = let e = put_inside blank [] id new in omega arith
put_inside blank (x ∷ xs) zero new = omega arith
put_inside blank (x ∷ xs) (suc id) new = let e = put_inside blank xs id new in omega arith

-- ---- a request that isn't held

pub unheld : (forgotten : Bool) (q : Request) → held_at forgotten q.place ≡ false → held_by forgotten q ≡ None
unheld forgotten q h = rw h refl

pub moved_away : (forgotten : Bool) (p : Place) (q : Request) → held_at forgotten p ≡ false → held_by forgotten (moved p q) ≡ None
moved_away forgotten p q h = rw h refl

-- a place where no made request is isn't the driver's
pub unmade_unheld : (forgotten : Bool) (p : Place) → is_made_place p ≡ false → held_at forgotten p ≡ false
unmade_unheld forgotten place.Owned h = absurd (let z : ⊥ = cc in z)
unmade_unheld forgotten (place.Sent t) h = absurd (let z : ⊥ = cc in z)
unmade_unheld forgotten _ h = refl

pub withdrawn_unheld : (b forgotten : Bool) (q : ℕ) → held_at forgotten (if b then place.Returning (record { 0 = q }) else place.Closing status.Cancelled) ≡ false
withdrawn_unheld true forgotten q = refl
withdrawn_unheld false forgotten q = refl

-- ---- a request that becomes Owned from a queue

pub from_queue : (forgotten : Bool) (q : ℕ) (r : Request) (p : Place) → r.place ≡ p → is_queued_in q p ≡ true → (held_by forgotten r ≡ None) × (held_by forgotten (moved place.Owned r) ≡ Some q)
from_queue forgotten q r (place.Queued o) e h = (rw e refl, rw e (ap Some (eqb-true o.0 q h)))
from_queue forgotten q r _ e h = absurd (let z : ⊥ = cc in z)

pub from_return : (forgotten : Bool) (q : ℕ) (r : Request) (p : Place) → r.place ≡ p → is_returning_to q p ≡ true → (held_by forgotten r ≡ None) × (held_by forgotten (moved place.Owned r) ≡ Some q)
from_return forgotten q r (place.Returning o) e h = (rw e refl, rw e (ap Some (eqb-true o.0 q h)))
from_return forgotten q r _ e h = absurd (let z : ⊥ = cc in z)

-- ---- a request that is sent, finished or back is held as before

pub sent_held : (forgotten : Bool) (t : ℕ) (r : Request) (p : Place) → r.place ≡ p → is_owned p ≡ true → held_by false (moved (place.Sent (record { 0 = t })) r) ≡ held_by forgotten r
sent_held forgotten t r place.Owned e h = rw e refl
sent_held forgotten t r _ e h = absurd (let z : ⊥ = cc in z)

pub finished_held : (forgotten now : Bool) (s : Status) (r : Request) (p : Place) → r.place ≡ p → is_sent p ≡ true → (forgotten ≡ false → now ≡ false)
    → held_by now (moved (finished_at forgotten s p) r) ≡ held_by forgotten r
finished_held true now s r (place.Sent t) e h comes = rw e refl
finished_held false now s r (place.Sent t) e h comes = rw (e, comes refl) refl
finished_held forgotten now s r _ e h comes = absurd (let z : ⊥ = cc in z)

pub back_held : (now forgotten : Bool) (r : Request) (p : Place) → r.place ≡ p → is_sent p ≡ true → forgotten ≡ false → held_by now (moved place.Owned r) ≡ held_by forgotten r
back_held now forgotten r (place.Sent t) e h f = rw (e, f) refl
back_held now forgotten r _ e h f = absurd (let z : ⊥ = cc in z)

-- ---- marks

pub marked_held : (forgotten : Bool) (q : Request) (b : Bool) → q.info.cancelled ≡ b → held_by forgotten (marked q) ≡ held_by forgotten q
marked_held forgotten q true e = rw e refl
marked_held forgotten q false e = rw e refl

pub unmarked_held : (forgotten : Bool) (q : Request) (b : Bool) → is_marked q.info.mark ≡ b → held_by forgotten (unmarked q) ≡ held_by forgotten q
unmarked_held forgotten q true e = rw e refl
unmarked_held forgotten q false e = rw e refl

-- ---- in the map of requests

pub holder_here : (R : Requests) (T : Targets) (r : ℕ) (f : Request → Request) → holder (with_request R r f) T r ≡ held_by (is_forgotten T r) (f (request_of R r))
holder_here R T r f = ap (held_by (is_forgotten T r)) (request_here R r f)

pub holder_elsewhere : (R : Requests) (T : Targets) (r x : ℕ) (f : Request → Request) → x ≢ r → holder (with_request R r f) T x ≡ holder R T x
holder_elsewhere R T r x f n = ap (held_by (is_forgotten T x)) (request_elsewhere R r x f n)
