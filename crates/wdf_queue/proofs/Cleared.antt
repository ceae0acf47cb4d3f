-- A queue that is emptied from its front.
use Rattle.std.proofs.Common.{◌≡◌, ℕ, ◌<◌, true, false, List, [], length, drop, refl, ap, arith}
use Rattle.std.proofs.lemmas.Bool.{eqb-true, eqb-false}
use Rattle.std.proofs.lemmas.List.{length-drop, nil_from_length}
use Rattle.wdf_model.specs.parts.Queues.{Queues, clear, is_empty_queue, waiting_in, with_waiting}
use Rattle.wdf_model.proofs.Maps.{entry_put_same, put_put, put_within, set_as_it_was}

-- what was done to the waiting list before doesn't matter
pub clear_rest : (Q : Queues) (q : ℕ) (f : List ℕ → List ℕ) → clear (with_waiting Q q f) q ≡ clear Q q
clear_rest Q q f = ap (λ (lists : List (List ℕ)). record Q { waiting = lists }) (put_put [] Q.waiting q (f (waiting_in Q q)) [])

-- the waiting list gets shorter
pub shorter : (Q : Queues) (q : ℕ) → is_empty_queue Q q ≡ false → length (waiting_in (with_waiting Q q (drop 1)) q) < length (waiting_in Q q)
shorter Q q some =
    let left = entry_put_same [] Q.waiting q (drop 1 (waiting_in Q q)) in
    let there : length (waiting_in Q q) ≡ 0 → ⊥ = eqb-false (length (waiting_in Q q)) 0 some in
    rw (left, length-drop) (omega arith)

-- an empty queue is cleared
pub clear_empty : (Q : Queues) (q : ℕ) → q < length Q.waiting → is_empty_queue Q q ≡ true → Q ≡ clear Q q
clear_empty Q q there none =
    let nobody : waiting_in Q q ≡ [] = nil_from_length (waiting_in Q q) (eqb-true (length (waiting_in Q q)) 0 none) in
    let same = set_as_it_was [] Q.waiting q in
    rw (put_within [] Q.waiting q [] there, ← nobody, same) refl
