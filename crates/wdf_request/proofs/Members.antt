-- The members of a set, after an entry was written, and as the requests that pass its test.
use Rattle.std.proofs.Common.{ℕ, ◌≡◌, ◌<◌, ◌≤◌, Bool, false, List, [], Option, Some, None, MatchOption, option_map, length, slice_set, refl, ap, sym, ◌∙◌, replicate, arith}
use Rattle.std.specs.List.{filter, range_with_len}
use Rattle.wdf_base.specs.Places.{is_closing, is_due, is_sent}
use Rattle.wdf_base.specs.declared.ids.ObjectId.{ObjectId}
use Rattle.wdf_model.specs.declared.entries.Request.{Request}
use Rattle.wdf_model.specs.declared.room.TheConstants.{OBJECTS}
use Rattle.wdf_model.specs.Tables.{entry, put}
use Rattle.wdf_model.specs.parts.Requests.{Requests, no_request}
use Rattle.wdf_model.proofs.Maps.{entry_put_same, entry_put_other, entry_past}
use Rattle.wdf_sets.specs.Members.{is_in, members}
use Rattle.wdf_sets.specs.Nexts.{IsNext, NoneFrom}
use Rattle.wdf_sets.specs.SetOf.{passes}
use Rattle.wdf_sets.proofs.Nexts.{next_also, none_also}
use Rattle.wdf_sets.proofs.Ranks.{members_where}
use Rattle.wdf_sets.proofs.SetOf as sets
use Rattle.wdf_request.specs.Closing.{IsSetOf, is_out}

-- ---- an entry is written

-- the set has the entry's id where the entry passes the test
pub set_put : (test : Request → Bool) (all : List Request) (bits : List Bool) (r : ℕ) (new : Request) → r < OBJECTS → IsSetOf test all bits
    → IsSetOf test (put no_request all r new) (slice_set bits r (test new))
set_put test all bits r new h set =
    sets.set_put (passes no_request test all) (passes no_request test (put no_request all r new)) OBJECTS bits r (test new) set (let room = set.room in omega arith)
    (ap test (sym (entry_put_same no_request all r new))) (λ id other. ap test (entry_put_other no_request all r id new other))

-- ---- the members

-- the members are the requests that pass the test
pub members_are : (test : Request → Bool) (all : List Request) (bits : List Bool) → test no_request ≡ false → IsSetOf test all bits
    → members bits ≡ filter (λ r. test (entry no_request all r)) (range_with_len 0 (length all))
members_are test all bits none set = members_where bits (passes no_request test all) (length all) set.same (λ r past. ap test (entry_past no_request all r past) ∙ none)

-- ---- each set

-- the members are the requests that the framework will complete
pub members_closing : (all : List Request) (bits : List Bool) → IsSetOf (λ (r : Request). is_closing r.place) all bits
    → members bits ≡ filter (λ r. is_closing (entry no_request all r).place) (range_with_len 0 (length all))
members_closing all bits set = members_are (λ (r : Request). is_closing r.place) all bits refl set

-- the members are the requests for which EvtRequestCancel is due
pub members_due : (all : List Request) (bits : List Bool) → IsSetOf (λ (r : Request). is_due r.info.mark) all bits
    → members bits ≡ filter (λ r. is_due (entry no_request all r).info.mark) (range_with_len 0 (length all))
members_due all bits set = members_are (λ (r : Request). is_due r.info.mark) all bits refl set

-- the first request from an id on that is Sent
pub next_out : (R : Requests) (bits : List Bool) (from : ℕ) (found : Option ℕ) (result : Option ObjectId) → IsSetOf (λ (r : Request). is_sent r.place) R.all bits → option_map (λ (r : ObjectId). r.0) result ≡ found
    → MatchOption found (NoneFrom (λ id. is_in id bits) from OBJECTS) (λ id. IsNext (λ x. is_in x bits) from OBJECTS id)
    → MatchOption result (NoneFrom (is_out R) from OBJECTS) (λ (r : ObjectId). IsNext (is_out R) from OBJECTS r.0)
next_out R bits from None None h e k = none_also (λ id. is_in id bits) (is_out R) from OBJECTS (λ id above below. h.same id) k
next_out R bits from (Some x) (Some r) h e k =
    let same : r.0 ≡ x = cc in
    rw same (next_also (λ id. is_in id bits) (is_out R) from OBJECTS (λ id above below. h.same id) x k)
next_out R bits from None (Some r) h e k = absurd (let z : ⊥ = cc in z)
next_out R bits from (Some x) None h e k = absurd (let z : ⊥ = cc in z)

-- ---- the empty set

pub empty_set : (test : Request → Bool) (n : ℕ) (bits : List Bool) → test no_request ≡ false → OBJECTS ≤ n → bits ≡ replicate n false → IsSetOf test [] bits
empty_set test n bits none room e = sets.empty_set (passes no_request test []) OBJECTS n bits e room (λ id. none)
