-- The requests of a queue that weren't asked to stop, and those for which a resume is due: the ids of the sets and the counts by queue.
use Rattle.std.proofs.Common.{Option, MatchOption, ℕ, ◌≡◌, ◌+◌, ◌<◌, ◌≤◌, nat_lt, Bool, false, List, [], count_by, is_some, length, slice_set, replicate, refl, ap, sym, ◌∙◌, arith}
use Rattle.std.specs.List.{filter, range_with_len}
use Rattle.std.proofs.lemmas.List.Sums.{length-filter}
use Rattle.wdf_base.specs.declared.ids.ObjectId.{ObjectId}
use Rattle.wdf_model.specs.declared.entries.Holding.{Holding}
use Rattle.wdf_model.specs.declared.room.TheConstants.{OBJECTS}
use Rattle.wdf_model.specs.Tables.{entry, put}
use Rattle.wdf_model.specs.parts.Power.{Power, holding_of, no_holding}
use Rattle.wdf_model.proofs.Maps.{entry_put_same, entry_put_other, entry_past}
use Rattle.wdf_maps.specs.Counts.{AreCounted, is_at}
use Rattle.wdf_sets.specs.Members.{members}
use Rattle.wdf_sets.specs.Nexts.{IsNext, NoneFrom}
use Rattle.wdf_sets.specs.SetOf.{passes}
use Rattle.wdf_sets.proofs.Nexts.{found_also}
use Rattle.wdf_sets.proofs.Ranks.{members_where}
use Rattle.wdf_sets.proofs.SetOf as sets
use Rattle.wdf_tally.specs.Counted.{is_counted}
use Rattle.wdf_power.specs.ForQueues.{IsSetOf, has_resuming, has_unasked, resuming, resuming_from, resuming_queue, unasked, unasked_from, unasked_queue}
use Rattle.wdf_power.proofs.Readers.{count_ids}

-- ---- counts

found : (key : Holding → Option ObjectId) (P : Power) (q : ℕ) → count_by (λ h. is_at q (key h)) P.holdings ≡ length (filter (λ r. is_at q (key (holding_of P r))) (range_with_len 0 (length P.holdings)))
found key P q =
    sym (count_ids (λ h. is_at q (key h)) no_holding P.holdings (holding_of P) 0 (λ k. let z : 0 + k ≡ k = omega arith in ap (holding_of P) z))
    ∙ sym (length-filter (λ r. is_at q (key (holding_of P r))) (range_with_len 0 (length P.holdings)))

-- as many are held from a queue and weren't asked to stop
pub unasked_found : (P : Power) (q : ℕ) → count_by (λ h. is_at q (unasked_queue h)) P.holdings ≡ length (unasked_from P q)
unasked_found = found unasked_queue

pub unasked_counted : (P : Power) (counts : List ℕ) (q : ℕ) → AreCounted unasked_queue P.holdings counts → q < OBJECTS → entry 0 counts q ≡ length (unasked_from P q)
unasked_counted P counts q counted within = counted.count q within ∙ unasked_found P q

-- for as many a resume is due
pub resuming_found : (P : Power) (q : ℕ) → count_by (λ h. is_at q (resuming_queue h)) P.holdings ≡ length (resuming_from P q)
resuming_found = found resuming_queue

pub resuming_counted : (P : Power) (counts : List ℕ) (q : ℕ) → AreCounted resuming_queue P.holdings counts → q < OBJECTS → entry 0 counts q ≡ length (resuming_from P q)
resuming_counted P counts q counted within = counted.count q within ∙ resuming_found P q

pub next_to_ask : (P : Power) (counts : List ℕ) (from : ℕ) (found : Option ObjectId) → AreCounted unasked_queue P.holdings counts
    → MatchOption found (NoneFrom (is_counted counts) from OBJECTS) (λ (o : ObjectId). IsNext (is_counted counts) from OBJECTS o.0)
    → MatchOption found (NoneFrom (has_unasked P) from OBJECTS) (λ (o : ObjectId). IsNext (has_unasked P) from OBJECTS o.0)
next_to_ask P counts from found counted k = found_also (is_counted counts) (has_unasked P) from OBJECTS (λ id above below. ap (nat_lt 0) (unasked_counted P counts id counted below)) (λ (o : ObjectId). o.0) found k

pub next_to_resume : (P : Power) (counts : List ℕ) (from : ℕ) (found : Option ObjectId) → AreCounted resuming_queue P.holdings counts
    → MatchOption found (NoneFrom (is_counted counts) from OBJECTS) (λ (o : ObjectId). IsNext (is_counted counts) from OBJECTS o.0)
    → MatchOption found (NoneFrom (has_resuming P) from OBJECTS) (λ (o : ObjectId). IsNext (has_resuming P) from OBJECTS o.0)
next_to_resume P counts from found counted k = found_also (is_counted counts) (has_resuming P) from OBJECTS (λ id above below. ap (nat_lt 0) (resuming_counted P counts id counted below)) (λ (o : ObjectId). o.0) found k

-- ---- the set

-- the set has the request's id where it is held and wasn't asked to stop
pub set_put : (test : Holding → Bool) (all : List Holding) (bits : List Bool) (r : ℕ) (new : Holding) → r < OBJECTS → IsSetOf test all bits
    → IsSetOf test (put no_holding all r new) (slice_set bits r (test new))
set_put test all bits r new h set =
    sets.set_put (passes no_holding test all) (passes no_holding test (put no_holding all r new)) OBJECTS bits r (test new) set (let room = set.room in omega arith)
    (ap test (sym (entry_put_same no_holding all r new))) (λ id other. ap test (entry_put_other no_holding all r id new other))

members_are : (test : Holding → Bool) (P : Power) (bits : List Bool) → test no_holding ≡ false → IsSetOf test P.holdings bits
    → members bits ≡ filter (λ r. test (holding_of P r)) (range_with_len 0 (length P.holdings))
members_are test P bits none set = members_where bits (passes no_holding test P.holdings) (length P.holdings) set.same (λ r past. ap test (entry_past no_holding P.holdings r past) ∙ none)

-- the members are those requests
pub members_unasked : (P : Power) (bits : List Bool) → IsSetOf (λ (h : Holding). is_some (unasked_queue h)) P.holdings bits → members bits ≡ unasked P
members_unasked P bits set = members_are (λ (h : Holding). is_some (unasked_queue h)) P bits refl set

pub members_resuming : (P : Power) (bits : List Bool) → IsSetOf (λ (h : Holding). h.resume_due) P.holdings bits → members bits ≡ resuming P
members_resuming P bits set = members_are (λ (h : Holding). h.resume_due) P bits refl set

pub empty_set : (test : Holding → Bool) (n : ℕ) (bits : List Bool) → test no_holding ≡ false → OBJECTS ≤ n → bits ≡ replicate n false → IsSetOf test [] bits
empty_set test n bits none room e = sets.empty_set (passes no_holding test []) OBJECTS n bits e room (λ id. none)
