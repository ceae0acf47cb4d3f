-- The queues that requests name, in their places and as their origins, after each act on requests.
use Rattle.std.proofs.Common.{if◌then◌else◌, ◌≡◌, ℕ, ◌==◌, ◌<◌, Bool, true, false, ◌||◌, inl, inr, Option, Some, option_map, refl, ap, sym, subst, ◌∙◌, arith}
use Rattle.std.proofs.lemmas.Bool.{eqb-true, or_cases}
use Rattle.wdf_base.specs.declared.ids.ObjectId.{ObjectId}
use Rattle.wdf_base.specs.declared.value.Status.{Status}
use Rattle.wdf_base.specs.declared.value.Status.TheVariants as status
use Rattle.wdf_base.specs.declared.object.Place.{Place}
use Rattle.wdf_base.specs.declared.object.Place.TheVariants as place
use Rattle.wdf_base.specs.declared.object.Mark.TheVariants as mark
use Rattle.wdf_base.specs.declared.object.RequestInfo.{RequestInfo}
use Rattle.wdf_base.specs.Places.{is_marked, is_returning_to}
use Rattle.wdf_model.specs.declared.entries.Request.{Request}
use Rattle.wdf_model.specs.parts.Requests.{Requests, cancelled, closed_at, forgotten, is_in, is_over, marked, moved, no_request, origin_from, request_of, unmarked, with_mark, with_request}
use Rattle.wdf_model.specs.parts.Requests as requests
use Rattle.wdf_model.specs.rules.Deeds.{finished_at}
use Rattle.wdf_model.proofs.Tests.{first}
use Rattle.wdf_model.proofs.Counts.{equal, one_or_two}
use Rattle.wdf_model.proofs.Maps.{entry_map, entry_put_other, entry_put_same, entry_set_other, set_read}
use Rattle.law_machine_base.proofs.KeptMoves.{request_elsewhere, request_here}

-- ---- one request

-- the queue of a place has an id below n
abbrev pub PlaceNamed : ℕ → Place → Type 0
PlaceNamed n p = (q : ℕ) → is_in q p ≡ true → q < n

abbrev pub OriginNamed : ℕ → Option ObjectId → Type 0
OriginNamed n from = (q : ℕ) → option_map (λ o. o.0) from ≡ Some q → q < n

pub record RequestNamed (n : ℕ) (r : Request) : Type 0 where
  pub where_it_is : PlaceNamed n r.place
  pub where_from : OriginNamed n r.info.origin

in_queue : (q x : ℕ) → ((q == x) || false) ≡ true → q ≡ x
in_queue q x h = elim (or_cases (q == x) false h) [
  | inl e ↦ eqb-true q x e
  | inr e ↦ absurd (let z : ⊥ = cc in z)
]

pub queued_named : (n : ℕ) (q : ObjectId) → q.0 < n → PlaceNamed n (place.Queued q)
queued_named n q h x e = let same : q.0 ≡ x = in_queue q.0 x e in omega arith

pub returning_named : (n : ℕ) (q : ObjectId) → q.0 < n → PlaceNamed n (place.Returning q)
returning_named n q h x e = let same : q.0 ≡ x = eqb-true q.0 x e in omega arith

pub owned_named : (n : ℕ) → PlaceNamed n place.Owned
owned_named n q h = absurd (let z : ⊥ = cc in z)

pub done_named : (n : ℕ) → PlaceNamed n place.Done
done_named n q h = absurd (let z : ⊥ = cc in z)

pub sent_named : (n : ℕ) (t : ObjectId) → PlaceNamed n (place.Sent t)
sent_named n t q h = absurd (let z : ⊥ = cc in z)

pub closing_named : (n : ℕ) (s : Status) → PlaceNamed n (place.Closing s)
closing_named n s q h = absurd (let z : ⊥ = cc in z)

-- the queue that a request is in becomes its origin
origin_named : (n : ℕ) (old p : Place) (from : Option ObjectId) → PlaceNamed n old → OriginNamed n from → OriginNamed n (origin_from old p from)
origin_named n (place.Queued x) place.Owned from h k q e = let same : x.0 ≡ q = cc in h q (first (x.0 == q) false (equal x.0 q same))
origin_named n (place.Returning x) place.Owned from h k q e = let same : x.0 ≡ q = cc in h q (equal x.0 q same)
origin_named n _ _ from h k q e = k q e

pub moved_named : (n : ℕ) (p : Place) (r : Request) → PlaceNamed n p → RequestNamed n r → RequestNamed n (moved p r)
moved_named n p r h k = record { where_it_is = h; where_from = origin_named n r.place p r.info.origin k.where_it_is k.where_from }

pub none_named : (n : ℕ) → RequestNamed n no_request
none_named n = record { where_it_is = done_named n; where_from = λ q h. absurd (let z : ⊥ = cc in z) }

either_named : (n : ℕ) (b : Bool) (x y : Request) → RequestNamed n x → RequestNamed n y → RequestNamed n (if b then x else y)
either_named n true x y h k = h
either_named n false x y h k = k

pub mark_named : (n : ℕ) (r : Request) → RequestNamed n r → RequestNamed n (marked r)
mark_named n r k = either_named n r.info.cancelled r (with_mark mark.Marked r) k (record { where_it_is = k.where_it_is; where_from = k.where_from })

pub unmark_named : (n : ℕ) (r : Request) → RequestNamed n r → RequestNamed n (unmarked r)
unmark_named n r k = either_named n (is_marked r.info.mark) (with_mark mark.Unmarked r) r (record { where_it_is = k.where_it_is; where_from = k.where_from }) k

closed_named : (n : ℕ) (here : Place → Bool) (r : Request) → RequestNamed n r → RequestNamed n (closed_at here r)
closed_named n here r k = either_named n (here r.place) (moved (place.Closing status.Cancelled) r) r (moved_named n (place.Closing status.Cancelled) r (closing_named n status.Cancelled) k) k

forgotten_named : (n : ℕ) (r : Request) → RequestNamed n r → RequestNamed n (forgotten r)
forgotten_named n r k = either_named n (is_over r) no_request r (none_named n) k

pub finished_named : (n : ℕ) (forget : Bool) (s : Status) (p : Place) → PlaceNamed n p → PlaceNamed n (finished_at forget s p)
finished_named n false s p h = h
finished_named n true s p h = closing_named n s

-- ---- all of them

abbrev pub AllNamed : ℕ → Requests → Type 0
AllNamed n R = (r : ℕ) → RequestNamed n (request_of R r)

pub with_named : (n : ℕ) (R : Requests) (r : ℕ) (f : Request → Request) → ((x : Request) → RequestNamed n x → RequestNamed n (f x)) → AllNamed n R → AllNamed n (with_request R r f)
with_named n R r f h k x = elim (one_or_two x r) [
  | inl e ↦ subst (RequestNamed n) (sym (ap (request_of (with_request R r f)) e ∙ request_here R r f)) (h (request_of R r) (k r))
  | inr other ↦ subst (RequestNamed n) (sym (request_elsewhere R r x f other)) (k x)
]

pub move_named : (n : ℕ) (R : Requests) (r : ℕ) (p : Place) → PlaceNamed n p → AllNamed n R → AllNamed n (requests.move_to R r p)
move_named n R r p h k = with_named n R r (moved p) (λ x. moved_named n p x h) k

pub cancel_named : (n : ℕ) (R : Requests) (r : ℕ) → AllNamed n R → AllNamed n (requests.cancel R r)
cancel_named n R r k = with_named n R r cancelled (λ x named. record { where_it_is = named.where_it_is; where_from = named.where_from }) k

pub take_named : (n : ℕ) (R : Requests) (r : ℕ) → AllNamed n R → AllNamed n (requests.take_cancel R r)
take_named n R r k = with_named n R r (with_mark mark.Taken) (λ x named. record { where_it_is = named.where_it_is; where_from = named.where_from }) k

-- what returns to a queue, or is in it, is closed
pub returning_closed : (n : ℕ) (R : Requests) (q : ℕ) → AllNamed n R → AllNamed n (requests.close_returning R q)
returning_closed n R q k x = subst (RequestNamed n) (sym (entry_map no_request R.all (closed_at (is_returning_to q)) x refl)) (closed_named n (is_returning_to q) (request_of R x) (k x))

pub queue_closed : (n : ℕ) (R : Requests) (q : ℕ) → AllNamed n R → AllNamed n (requests.close R q)
queue_closed n R q k x = subst (RequestNamed n) (sym (entry_map no_request R.all (closed_at (is_in q)) x refl)) (closed_named n (is_in q) (request_of R x) (k x))

pub arrive_named : (n : ℕ) (R : Requests) (r : ℕ) (p : Place) (info : RequestInfo) → PlaceNamed n p → OriginNamed n info.origin → AllNamed n R → AllNamed n (requests.arrive R r p info)
arrive_named n R r p info h from k x = elim (one_or_two x r) [
  | inl e ↦ subst (RequestNamed n) (sym (ap (request_of (requests.arrive R r p info)) e ∙ entry_put_same no_request R.all r (record { place = p; info = info }))) (record { where_it_is = h; where_from = from })
  | inr other ↦ subst (RequestNamed n) (sym (entry_put_other no_request R.all r x (record { place = p; info = info }) other)) (k x)
]

pub forget_named : (n : ℕ) (R : Requests) (r : ℕ) → AllNamed n R → AllNamed n (requests.forget R r)
forget_named n R r k x = elim (one_or_two x r) [
  | inl e ↦ subst (RequestNamed n) (sym (ap (request_of (requests.forget R r)) e ∙ set_read no_request forgotten R.all r refl)) (forgotten_named n (request_of R r) (k r))
  | inr other ↦ subst (RequestNamed n) (sym (entry_set_other no_request R.all r x (forgotten (request_of R r)) other)) (k x)
]
