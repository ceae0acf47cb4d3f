-- What is so of devices, and of what belongs to them, at each place of every run.
use Rattle.std.specs.Prelude.{◌≡◌, ℕ, Bool, false, ◌==◌, ◌&&◌, [], Option, Some, None, is_some}
use Rattle.wdf_base.specs.declared.plan.Plan.{Plan}
use Rattle.wdf_base.specs.declared.declared.Declared.{Declared}
use Rattle.wdf_base.specs.declared.declared.Declared.TheVariants as declared
use Rattle.wdf_base.specs.Plan.{declared_of}
use Rattle.wdf_base.specs.Lives.{is_live}
use Rattle.wdf_model.specs.declared.enums.Phase.TheVariants.{Removed}
use Rattle.wdf_model.specs.Plans.{device_of}
use Rattle.wdf_model.specs.parts.Tree.{life_of}
use Rattle.wdf_model.specs.parts.Pnp.{Sequence}
use Rattle.wdf_model.specs.State.{State}

-- a queue, an interrupt or a target of this device
abbrev pub is_part : ℕ → Option Declared → Bool
is_part d (Some (declared.Queue q)) = q.device.0 == d
is_part d (Some (declared.Interrupt i)) = i.device.0 == d
is_part d (Some (declared.Target t)) = t.device.0 == d
is_part d _ = false

abbrev pub is_part_of : Plan → ℕ → ℕ → Bool
is_part_of plan d x = is_part d (declared_of plan x) && is_some (device_of plan d)

-- a device that is live
abbrev pub is_live_device : {A : Type 0} → Plan → State A → ℕ → Bool
is_live_device plan S d = is_some (device_of plan d) && is_live (life_of S.tree d)

-- the steps of a device are over: it is removed, no step is left, and none runs
pub record IsOver (q : Sequence) : Type 0 where
  pub phase : q.phase ≡ Removed
  pub left : q.left ≡ []
  pub running : q.running ≡ None
