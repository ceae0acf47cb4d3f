-- From which lists the steps of a device come.
use Rattle.std.specs.Prelude.{◌≡◌, ℕ, List, ◌++◌}
use Rattle.wdf_base.specs.declared.event.Ask.{Ask}
use Rattle.wdf_base.specs.declared.event.Step.{Step}
use Rattle.wdf_model.specs.parts.Pnp.{Sequence, sequence_of, steps_for, tail_steps}
use Rattle.wdf_model.specs.State.{State}
use Rattle.law_trace_power.specs.UnderWay.{under_way}

-- a list of steps ends in these
abbrev pub IsEndOf : List Step → List Step → Type 0
IsEndOf steps whole = (front : List Step) × (front ++ steps ≡ whole)

-- What is under way is the end of a list that the machine gives.
pub data ComesFromList (q : Sequence) : Type 0 where
  -- that for something asked of a device in its phase
  Asked : (a : Ask) → IsEndOf (under_way q) (steps_for q.steps q.ever_working q.phase a) → ComesFromList q
  -- the tail after a failure, which begins where the hardware is released, or after that
  Failed : IsEndOf (under_way q) (tail_steps q.steps q.ever_working) → ComesFromList q

-- so of each device
abbrev pub StepsComeFromLists : {A : Type 0} → State A → Type 0
StepsComeFromLists S = (d : ℕ) → ComesFromList (sequence_of S.pnp d)
