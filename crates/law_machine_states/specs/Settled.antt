-- What the driver holds of a device whose queues are down.
use Rattle.std.specs.Prelude.{◌≡◌, ℕ, Bool, true, false, List, [], ◌∷◌}
use Rattle.wdf_base.specs.declared.event.Stage.{Stage}
use Rattle.wdf_base.specs.declared.event.Stage.TheVariants as stage
use Rattle.wdf_base.specs.declared.event.Step.{Step}
use Rattle.wdf_base.specs.declared.event.Step.TheVariants as step
use Rattle.wdf_model.specs.parts.Pnp.{steps_left}
use Rattle.wdf_model.specs.parts.Power.{queues_up, unsettled}
use Rattle.wdf_model.specs.State.{State}

abbrev pub is_settled : Stage → Bool
is_settled stage.Settled = true
is_settled _ = false

-- a step passes `settled`
abbrev pub settles : Step → Bool
settles (step.Run c i) = false
settles (step.Pass s i) = is_settled s

-- the next of the steps left passes `settled`
abbrev pub settles_next : List Step → Bool
settles_next [] = false
settles_next (s ∷ ss) = settles s

-- Where the queues of a device are down, the driver holds no request from its power-managed queues that isn't
-- acknowledged, unless the device's next step is `settled`. So it is from `settled` to the next `queues_up`, while the
-- device sleeps, and before it was ever up.
abbrev pub NothingUnsettled : {A : Type 0} → State A → Type 0
NothingUnsettled S = (d : ℕ) → queues_up S.power d ≡ false → settles_next (steps_left S.pnp d) ≡ false → unsettled S.power d ≡ []
