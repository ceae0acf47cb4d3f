-- A run by picks that isn't at its end yet.
use Rattle.std.proofs.Common.{ℕ, suc, ◌≡◌, ◌+◌, ◌<◌, ◌%◌, List, [], ◌∷◌, ◌++◌, length, Some, refl, sym, ap, ◌∙◌, arith, slice_get, slice_index, append_assoc, append-nil, length-append}
use Rattle.wdf_model.specs.Runs.{IsPickedFrom, picked_place}
use Rattle.wdf_model.proofs.Runs.{picked_opens, picked_goes_on}

-- The run begins with the events of start, and each event after them is the picked one.
pub record IsPickedSoFar {E : Type 0} (ready : List E → List E) (picks : List ℕ) (start run : List E) : Type 0 where
  pub begins : (more : List E) × (run ≡ start ++ more)
  pub picked : IsPickedFrom ready picks start run

-- nothing has been picked yet
pub so_far_opens : {E : Type 0} (ready : List E → List E) (picks : List ℕ) (start : List E) → IsPickedSoFar ready picks start start
so_far_opens ready picks start = record { begins = ([], sym (append-nil start)); picked = picked_opens ready picks start }

-- it goes on by the event that is picked next
pub so_far_goes_on : {E : Type 0} (ready : List E → List E) (picks : List ℕ) (start run : List E) (event : E) (turn : ℕ)
    → length run ≡ length start + turn → IsPickedSoFar ready picks start run
    → slice_get (ready run) (picked_place picks turn (length (ready run))) ≡ Some event
    → IsPickedSoFar ready picks start (run ++ event ∷ [])
so_far_goes_on ready picks start run event turn long so_far here = record {
  begins = (so_far.begins.0 ++ event ∷ [], rw (so_far.begins.1, append_assoc) refl);
  picked = picked_goes_on ready picks start run event turn long so_far.picked here;
}

-- A list has the picks of a source, for each turn that a run of so many events may have.
abbrev pub HasPicks : (ℕ → ℕ) → ℕ → List ℕ → Type 0
HasPicks pick limit picks = (turn : ℕ) → turn < limit → slice_index picks turn ≡ pick turn

-- After some turns: the source is that many picks further, and the run so far is the one that its picks make.
pub record IsRunSoFar {E : Type 0} (ready : List E → List E) (pick next : ℕ → ℕ) (limit : ℕ) (start run : List E) : Type 0 where
  pub turns : ℕ
  pub long : length run ≡ length start + turns
  pub further : (turn : ℕ) → next turn ≡ pick (turns + turn)
  pub so_far : (picks : List ℕ) → HasPicks pick limit picks → IsPickedSoFar ready picks start run

pub run_opens : {E : Type 0} (ready : List E → List E) (pick : ℕ → ℕ) (limit : ℕ) (start : List E) → IsRunSoFar ready pick pick limit start start
run_opens ready pick limit start = record {
  turns = 0;
  long = omega arith;
  further = λ turn. let e : 0 + turn ≡ turn = omega arith in ap pick (sym e);
  so_far = λ picks h. so_far_opens ready picks start;
}

-- one turn more
pub run_goes_on : {E : Type 0} (ready : List E → List E) (pick next after : ℕ → ℕ) (limit : ℕ) (start run : List E) (event : E) (place : ℕ)
    → IsRunSoFar ready pick next limit start run → length run < limit
    → place ≡ next 0 % length (ready run) → slice_get (ready run) place ≡ Some event
    → ((turn : ℕ) → after turn ≡ next (suc turn))
    → IsRunSoFar ready pick after limit start (run ++ event ∷ [])
run_goes_on {E} ready pick next after limit start run event place so_far room at here moved = record {
  turns = so_far.turns + 1;
  long = omega (arith, so_far.long, length-append run (event ∷ []));
  further = λ turn.
      let e : so_far.turns + suc turn ≡ so_far.turns + 1 + turn = omega arith in
      moved turn ∙ so_far.further (suc turn) ∙ ap pick e;
  so_far = λ picks has.
      let short : so_far.turns < limit = omega (arith, so_far.long, room) in
      let e : so_far.turns + 0 ≡ so_far.turns = omega arith in
      let same : next 0 ≡ slice_index picks so_far.turns = so_far.further 0 ∙ ap pick e ∙ sym (has so_far.turns short) in
      so_far_goes_on ready picks start run event so_far.turns so_far.long (so_far.so_far picks has) (rw (← same, ← at) here);
}
