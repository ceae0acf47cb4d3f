-- Runs, over any machine. A machine is given by what may follow: a function from the events so far
-- to the list of the events that may come next, in their order. (own)
use Rattle.std.specs.Prelude.{ℕ, ◌≡◌, ◌+◌, ◌%◌, Bool, List, [], ◌++◌, length, take, slice_get, slice_index, position, Option, Some}

-- A list of events is a run of the machine `ready` where each event is, at some place, in what may follow the
-- events before it. (own)
unfoldable pub IsRun : {E : Type 0} → (List E → List E) → List E → Type 0
IsRun {E} ready run = (k : ℕ) (event : E) → slice_get run k ≡ Some event → (place : ℕ) × (slice_get (ready (take k run)) place ≡ Some event)

-- The place that the pick of turn `turn` names in a list of `count` events: what is left when the pick is divided
-- by `count`. Turns count from 0. A pick that is missing is 0. (own)
abbrev pub picked_place : List ℕ → ℕ → ℕ → ℕ
picked_place picks turn count = slice_index picks turn % count

-- After the events of `start`, each event of the run is at the place that is picked for its turn, in what may
-- follow the events before it. (own)
unfoldable pub IsPickedFrom : {E : Type 0} → (List E → List E) → List ℕ → List E → List E → Type 0
IsPickedFrom {E} ready picks start run = (turn : ℕ) (event : E) → slice_get run (length start + turn) ≡ Some event → slice_get (ready (take (length start + turn) run)) (picked_place picks turn (length (ready (take (length start + turn) run)))) ≡ Some event

-- The run that goes on from `start` by the picks, until nothing may follow. (own)
pub record Picked {E : Type 0} (ready : List E → List E) (picks : List ℕ) (start run : List E) : Type 0 where
  -- it begins with the events of start
  pub begins : (more : List E) × (run ≡ start ++ more)
  -- each event after them is the picked one
  pub picked : IsPickedFrom ready picks start run
  -- nothing may follow it
  pub ends : ready run ≡ []

-- The least place of an event of an actor, in what may follow; the test `by_actor` says whether an event is the
-- actor's. None where the actor has no event there. (own)
abbrev pub place_for : {E : Type 0} → (E → Bool) → List E → Option ℕ
place_for by_actor events = position by_actor events
