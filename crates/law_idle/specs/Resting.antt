-- What a device that is awake or asleep has under way, and how steps follow one another.
use Rattle.std.specs.Prelude.{◌≡◌, Bool, true, false, not, ◌&&◌, ◌||◌, List, [], ◌∷◌, None}
use Rattle.std.specs.List.{list_any}
use Rattle.wdf_base.specs.declared.event.Stage.{Stage}
use Rattle.wdf_base.specs.declared.event.Stage.TheVariants as stage
use Rattle.wdf_base.specs.declared.event.Step.{Step}
use Rattle.wdf_base.specs.declared.event.Step.TheVariants as step
use Rattle.wdf_base.specs.Callbacks.{is_query}
use Rattle.wdf_model.specs.declared.enums.Phase.{Phase}
use Rattle.wdf_model.specs.declared.enums.Phase.TheVariants.{Sleeping}
use Rattle.wdf_model.specs.parts.Pnp.{Sequence}
use Rattle.wdf_model.specs.agents.StackManager.{is_working}
use Rattle.law_idle.specs.Idling.{Rest}
use Rattle.law_trace_power.specs.UnderWay.{under_way}

-- own: the phase of a device that sleeps
abbrev pub is_sleeping : Phase → Bool
is_sleeping Sleeping = true
is_sleeping _ = false

-- own: a step asks the driver whether it refuses
abbrev pub is_query_step : Step → Bool
is_query_step (step.Run c i) = is_query c
is_query_step (step.Pass s i) = false

-- own: the driver is still to be asked
abbrev pub has_query : List Step → Bool
has_query ss = list_any is_query_step ss

-- own: a stage that makes a device awake or asleep
abbrev pub is_rest_stage : Stage → Bool
is_rest_stage stage.Working = true
is_rest_stage stage.Sleeping = true
is_rest_stage _ = false

-- own: a step by which a device becomes awake or asleep
abbrev pub is_rest_step : Step → Bool
is_rest_step (step.Run c i) = false
is_rest_step (step.Pass s i) = is_rest_stage s

-- own: no step is left
abbrev pub is_end : List Step → Bool
is_end [] = true
is_end (s ∷ ss) = false

-- own: after a step by which a device becomes awake or asleep nothing is left, and the driver is asked first
abbrev pub is_tidy : List Step → Bool
is_tidy [] = true
is_tidy (s ∷ ss) = (not (is_rest_step s) || is_end ss) && not (has_query ss) && is_tidy ss

-- own: nothing is under way in this phase
pub record IsAtRest (phase : Phase → Bool) (q : Sequence) : Type 0 where
  pub phase_is : phase q.phase ≡ true
  pub left : q.left ≡ []
  pub running : q.running ≡ None

-- What the words of the law say of a device is so in the machine: awake, it works and nothing is under way; asleep, it
-- sleeps and nothing is under way. While the driver is still to be asked, the device is as it was before that.
pub record Rests (awake asleep : Rest) (q : Sequence) : Type 0 where
  pub awake_is : awake.now ≡ true → IsAtRest is_working q
  pub asleep_is : asleep.now ≡ true → IsAtRest is_sleeping q
  pub was_awake : has_query (under_way q) ≡ true → awake.before ≡ true → is_working q.phase ≡ true
  pub was_asleep : has_query (under_way q) ≡ true → asleep.before ≡ true → is_sleeping q.phase ≡ true
  pub tidy : is_tidy (under_way q) ≡ true
