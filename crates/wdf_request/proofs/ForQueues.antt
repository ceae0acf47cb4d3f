-- The requests of a queue for which a callback is due: the ids of the set and the counts by queue.
use Rattle.std.proofs.Common.{ℕ, suc, ◌≡◌, ◌+◌, ◌<◌, nat_lt, Bool, List, [], ◌∷◌, Option, None, MatchOption, count_by, filter, is_some, length, refl, ap, sym, ◌∙◌, add-zero, arith}
use Rattle.std.specs.List.{range_with_len}
use Rattle.std.proofs.lemmas.List.Sums.{length-filter}
use Rattle.wdf_base.specs.Places.{is_returning_to}
use Rattle.wdf_base.specs.declared.ids.ObjectId.{ObjectId}
use Rattle.wdf_model.specs.Tables.{entry, flag}
use Rattle.wdf_model.specs.declared.entries.Request.{Request}
use Rattle.wdf_model.specs.declared.room.TheConstants.{OBJECTS}
use Rattle.wdf_model.specs.parts.Requests.{Requests, no_request, request_of}
use Rattle.wdf_model.proofs.Counts.{count_cons}
use Rattle.wdf_maps.specs.Counts.{AreCounted, is_at}
use Rattle.wdf_sets.specs.Members.{members}
use Rattle.wdf_sets.specs.Nexts.{IsNext, NoneFrom}
use Rattle.wdf_sets.proofs.Nexts.{found_also}
use Rattle.wdf_tally.specs.Counted.{is_counted}
use Rattle.wdf_request.specs.Closing.{IsSetOf}
use Rattle.wdf_request.specs.ForQueues.{due_from, has_due, has_returning, returning_requests, returning_to}
use Rattle.wdf_request.specs.Keys.{due_queue, returning_queue}
use Rattle.wdf_request.proofs.Belonging.{is_at_queue}
use Rattle.wdf_request.proofs.Members.{members_are}

-- the ids whose entries pass are as many as the entries that pass
count_ids : (p : Request → Bool) (xs : List Request) (f : ℕ → Request) (from : ℕ) → ((k : ℕ) → f (from + k) ≡ entry no_request xs k)
    → count_by (λ r. p (f r)) (range_with_len from (length xs)) ≡ count_by p xs
count_ids p [] f from h = refl
count_ids p (x ∷ xs) f from h =
    let first : f from ≡ x = ap f (sym (add-zero from)) ∙ h 0 in
    let passes : flag (p (f from)) ≡ flag (p x) = ap (λ y. flag (p y)) first in
    let rest : count_by (λ r. p (f r)) (range_with_len (from + 1) (length xs)) ≡ count_by p xs =
    count_ids p xs f (from + 1) (λ k. let e : (from + 1) + k ≡ from + suc k = omega arith in ap f e ∙ h (suc k)) in
    let e : count_by (λ r. p (f r)) (range_with_len from (length (x ∷ xs))) ≡ flag (p (f from)) + count_by (λ r. p (f r)) (range_with_len (from + 1) (length xs)) =
    count_cons (λ r. p (f r)) from (range_with_len (from + 1) (length xs)) in
    let g = count_cons p x xs in
    omega arith

ids_as_many : (p : Request → Bool) (R : Requests) → count_by p R.all ≡ length (filter (λ r. p (request_of R r)) (range_with_len 0 (length R.all)))
ids_as_many p R =
    sym (count_ids p R.all (request_of R) 0 (λ k. let z : 0 + k ≡ k = omega arith in ap (request_of R) z))
    ∙ sym (length-filter (λ r. p (request_of R r)) (range_with_len 0 (length R.all)))

count_alike : (p q : Request → Bool) → ((x : Request) → p x ≡ q x) → (xs : List Request) → count_by p xs ≡ count_by q xs
count_alike p q same [] = refl
count_alike p q same (x ∷ xs) =
    let e = count_cons p x xs in
    let f = count_cons q x xs in
    let first : flag (p x) ≡ flag (q x) = ap flag (same x) in
    let rest : count_by p xs ≡ count_by q xs = count_alike p q same xs in
    omega arith

-- as many return to a queue
pub returning_found : (R : Requests) (q : ℕ) → count_by (λ (r : Request). is_at q (returning_queue r.place)) R.all ≡ length (returning_to R q)
returning_found R q =
    count_alike (λ (r : Request). is_at q (returning_queue r.place)) (λ r. is_returning_to q r.place) (λ r. is_at_queue q r.place) R.all
    ∙ ids_as_many (λ r. is_returning_to q r.place) R

pub returning_counted : (R : Requests) (counts : List ℕ) (q : ℕ) → AreCounted (λ (r : Request). returning_queue r.place) R.all counts → q < OBJECTS → entry 0 counts q ≡ length (returning_to R q)
returning_counted R counts q counted within = counted.count q within ∙ returning_found R q

-- for as many EvtRequestCancel is due
pub due_found : (R : Requests) (q : ℕ) → count_by (λ r. is_at q (due_queue r)) R.all ≡ length (due_from R q)
due_found R q = ids_as_many (λ r. is_at q (due_queue r)) R

pub due_counted : (R : Requests) (counts : List ℕ) (q : ℕ) → AreCounted due_queue R.all counts → q < OBJECTS → entry 0 counts q ≡ length (due_from R q)
due_counted R counts q counted within = counted.count q within ∙ due_found R q

pub next_returned : (R : Requests) (counts : List ℕ) (from : ℕ) (found : Option ObjectId) → AreCounted (λ (r : Request). returning_queue r.place) R.all counts
    → MatchOption found (NoneFrom (is_counted counts) from OBJECTS) (λ (o : ObjectId). IsNext (is_counted counts) from OBJECTS o.0)
    → MatchOption found (NoneFrom (has_returning R) from OBJECTS) (λ (o : ObjectId). IsNext (has_returning R) from OBJECTS o.0)
next_returned R counts from found counted k = found_also (is_counted counts) (has_returning R) from OBJECTS (λ id above below. ap (nat_lt 0) (returning_counted R counts id counted below)) (λ (o : ObjectId). o.0) found k

pub next_cancelled : (R : Requests) (counts : List ℕ) (from : ℕ) (found : Option ObjectId) → AreCounted due_queue R.all counts
    → MatchOption found (NoneFrom (is_counted counts) from OBJECTS) (λ (o : ObjectId). IsNext (is_counted counts) from OBJECTS o.0)
    → MatchOption found (NoneFrom (has_due R) from OBJECTS) (λ (o : ObjectId). IsNext (has_due R) from OBJECTS o.0)
next_cancelled R counts from found counted k = found_also (is_counted counts) (has_due R) from OBJECTS (λ id above below. ap (nat_lt 0) (due_counted R counts id counted below)) (λ (o : ObjectId). o.0) found k

-- no request belongs to no queue
pub none_due : due_queue no_request ≡ None
none_due = refl

-- the members are those that return
pub members_returning : (R : Requests) (bits : List Bool) → IsSetOf (λ (r : Request). is_some (returning_queue r.place)) R.all bits → members bits ≡ returning_requests R
members_returning R bits set = members_are (λ (r : Request). is_some (returning_queue r.place)) R.all bits refl set
