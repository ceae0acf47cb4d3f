-- The first object from an id on that is counted, as the frames say it.
use Rattle.std.proofs.Common.{ℕ, zero, suc, ◌≡◌, ◌<◌, ◌==◌, nat_lt, not, List, Option, MatchOption, refl, ap, sym, ◌∙◌, arith}
use Rattle.std.proofs.lemmas.Bool.{lt-ltb}
use Rattle.std.proofs.lemmas.List.Sums.{length-filter}
use Rattle.wdf_base.specs.declared.ids.ObjectId.{ObjectId}
use Rattle.wdf_model.specs.declared.room.TheConstants.{OBJECTS}
use Rattle.wdf_model.specs.Tables.{entry, same_id}
use Rattle.wdf_model.specs.State.{waits_for}
use Rattle.wdf_model.specs.parts.Cpus.{Cpus, all_frames, frame_of, is_on}
use Rattle.wdf_model.proofs.Counts.{not_equal}
use Rattle.wdf_sets.specs.Nexts.{IsNext, NoneFrom}
use Rattle.wdf_sets.proofs.Nexts.{found_also}
use Rattle.wdf_tally.specs.Counted.{is_counted}
use Rattle.wdf_cpu.specs.Keys.{CountsFrames, object_key, wait_key}
use Rattle.wdf_cpu.specs.Occupied.{is_awaited, is_occupied}
use Rattle.wdf_cpu.specs.ParkedFor.{CountsParked, is_for, some_parked_for}
use Rattle.wdf_cpu.proofs.Counting.{any_counted, waits_by_key}

some_or_none : (n : ℕ) → nat_lt 0 n ≡ not (n == 0)
some_or_none zero = refl
some_or_none (suc n) = let some : 0 < suc n = omega arith in lt-ltb 0 (suc n) some ∙ sym (ap not (not_equal (suc n) 0 (λ same. let z : ⊥ = omega arith in z)))

occupied : (C : Cpus) (counts : List ℕ) → CountsFrames object_key C counts → (id : ℕ) → id < OBJECTS → is_counted counts id ≡ is_occupied C id
occupied C counts h id low = some_or_none (entry 0 counts id) ∙ ap (λ n. not (n == 0)) (h.counted id low ∙ sym (length-filter (is_on C id) (all_frames C)))

awaited : (C : Cpus) (counts : List ℕ) → CountsFrames wait_key C counts → (id : ℕ) → id < OBJECTS → is_counted counts id ≡ is_awaited C id
awaited C counts h id low =
    some_or_none (entry 0 counts id) ∙ ap (λ n. not (n == 0)) (h.counted id low)
    ∙ any_counted (λ f. waits_for id (frame_of C f).pending) (λ f. same_id (wait_key (frame_of C f)) id) (λ f. waits_by_key id (frame_of C f).pending) (all_frames C)

pub next_occupied_is : (C : Cpus) (counts : List ℕ) (from : ℕ) (found : Option ObjectId) → CountsFrames object_key C counts
    → MatchOption found (NoneFrom (is_counted counts) from OBJECTS) (λ (o : ObjectId). IsNext (is_counted counts) from OBJECTS o.0)
    → MatchOption found (NoneFrom (is_occupied C) from OBJECTS) (λ (o : ObjectId). IsNext (is_occupied C) from OBJECTS o.0)
next_occupied_is C counts from found h = found_also (is_counted counts) (is_occupied C) from OBJECTS (λ id above. occupied C counts h id) (λ (o : ObjectId). o.0) found

pub next_awaited_is : (C : Cpus) (counts : List ℕ) (from : ℕ) (found : Option ObjectId) → CountsFrames wait_key C counts
    → MatchOption found (NoneFrom (is_counted counts) from OBJECTS) (λ (o : ObjectId). IsNext (is_counted counts) from OBJECTS o.0)
    → MatchOption found (NoneFrom (is_awaited C) from OBJECTS) (λ (o : ObjectId). IsNext (is_awaited C) from OBJECTS o.0)
next_awaited_is C counts from found h = found_also (is_counted counts) (is_awaited C) from OBJECTS (λ id above. awaited C counts h id) (λ (o : ObjectId). o.0) found

parked_for : (C : Cpus) (counts : List ℕ) → CountsParked C counts → (id : ℕ) → id < OBJECTS → is_counted counts id ≡ some_parked_for C id
parked_for C counts h id low =
    some_or_none (entry 0 counts id) ∙ ap (λ n. not (n == 0)) (h.counted id low) ∙ any_counted (is_for C id) (is_for C id) (λ f. refl) C.parked

pub next_parked_for_is : (C : Cpus) (counts : List ℕ) (from : ℕ) (found : Option ObjectId) → CountsParked C counts
    → MatchOption found (NoneFrom (is_counted counts) from OBJECTS) (λ (o : ObjectId). IsNext (is_counted counts) from OBJECTS o.0)
    → MatchOption found (NoneFrom (some_parked_for C) from OBJECTS) (λ (o : ObjectId). IsNext (some_parked_for C) from OBJECTS o.0)
next_parked_for_is C counts from found h = found_also (is_counted counts) (some_parked_for C) from OBJECTS (λ id above. parked_for C counts h id) (λ (o : ObjectId). o.0) found
