-- The set of the objects whose lock is held.
use Rattle.std.proofs.Common.{ℕ, ◌≡◌, ◌<◌, ◌≤◌, Bool, false, not, List, [], Option, Some, None, MatchOption, option_map, is_some, replicate, slice_set, refl, sym, ap, ◌∙◌, arith}
use Rattle.wdf_base.specs.declared.ids.ObjectId.{ObjectId}
use Rattle.wdf_model.specs.declared.entries.Held.{Held}
use Rattle.wdf_model.specs.declared.room.TheConstants.{OBJECTS}
use Rattle.wdf_model.specs.Tables.{put}
use Rattle.wdf_model.specs.parts.Locks.{Locks, hold_of, is_free_hold, object_lock}
use Rattle.wdf_model.proofs.Maps.{entry_put_other, entry_put_same}
use Rattle.wdf_sets.specs.Members.{is_in}
use Rattle.wdf_sets.specs.Nexts.{IsNext, NoneFrom}
use Rattle.wdf_sets.specs.SetOf.{passes}
use Rattle.wdf_sets.proofs.Nexts.{found_also, next_also, none_also}
use Rattle.wdf_sets.proofs.SetOf.{empty_set, set_put}
use Rattle.wdf_lock.specs.Holders.{Holds, is_taken}
use Rattle.wdf_lock.specs.Holds.{is_locked}
use Rattle.wdf_lock.specs.InHolders.{HoldsTaken}
use Rattle.wdf_lock.specs.Kept.{IsKept}

-- a hold is written, and its bit
pub taken_put : (objects : List (Option Held)) (bits : List Bool) (o : ℕ) (hold : Option Held) → o < OBJECTS → HoldsTaken objects bits → HoldsTaken (put None objects o hold) (slice_set bits o (is_some hold))
taken_put objects bits o hold low h =
    set_put (passes None is_some objects) (passes None is_some (put None objects o hold)) OBJECTS bits o (is_some hold) h (let room = h.room in omega arith)
    (ap is_some (sym (entry_put_same None objects o hold))) (λ id other. ap is_some (entry_put_other None objects o id hold other))

-- nothing is held
pub none_taken : (n : ℕ) (objects : List (Option Held)) (bits : List Bool) → objects ≡ [] → OBJECTS ≤ n → bits ≡ replicate n false → HoldsTaken objects bits
none_taken n objects bits none room e = rw none (empty_set (passes {T = Option Held} None is_some []) OBJECTS n bits e room (λ id. refl))

-- ---- what it answers

pub next_holder : (H : Holds) (bits : List Bool) (from : ℕ) (found : Option ℕ) → HoldsTaken H.objects bits
    → MatchOption found (NoneFrom (λ id. is_in id bits) from OBJECTS) (λ o. IsNext (λ id. is_in id bits) from OBJECTS o)
    → MatchOption found (NoneFrom (is_taken H) from OBJECTS) (λ o. IsNext (is_taken H) from OBJECTS o)
next_holder H bits from found h = found_also (λ id. is_in id bits) (is_taken H) from OBJECTS (λ id above below. h.same id) (λ id. id) found

held_or_free : (hold : Option Held) → is_some hold ≡ not (is_free_hold hold)
held_or_free None = refl
held_or_free (Some h) = refl

pub next_lock : (L : Locks) (H : Holds) (counts : List ℕ) (from : ℕ) (found : Option ℕ) (result : Option ObjectId) → IsKept L H counts → option_map (λ (o : ObjectId). o.0) result ≡ found
    → MatchOption found (NoneFrom (is_taken H) from OBJECTS) (λ o. IsNext (is_taken H) from OBJECTS o)
    → MatchOption result (NoneFrom (is_locked L) from OBJECTS) (λ (o : ObjectId). IsNext (is_locked L) from OBJECTS o.0)
next_lock L H counts from found result kept e k = by found result e k
  where
    locked : (id : ℕ) → id < OBJECTS → is_taken H id ≡ is_locked L id
    locked id low = ap is_some (kept.holders (object_lock id) low) ∙ held_or_free (hold_of L (object_lock id))

    by : (found : Option ℕ) (result : Option ObjectId) → option_map (λ (o : ObjectId). o.0) result ≡ found
        → MatchOption found (NoneFrom (is_taken H) from OBJECTS) (λ o. IsNext (is_taken H) from OBJECTS o)
        → MatchOption result (NoneFrom (is_locked L) from OBJECTS) (λ (o : ObjectId). IsNext (is_locked L) from OBJECTS o.0)
    by None None e k = none_also (is_taken H) (is_locked L) from OBJECTS (λ id above below. locked id below) k
    by (Some x) (Some o) e k =
        let same : o.0 ≡ x = cc in
        rw same (next_also (is_taken H) (is_locked L) from OBJECTS (λ id above below. locked id below) x k)
    by None (Some o) e k = absurd (let z : ⊥ = cc in z)
    by (Some x) None e k = absurd (let z : ⊥ = cc in z)
