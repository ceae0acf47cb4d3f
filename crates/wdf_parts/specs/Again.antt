-- What a state has to be like so that it can begin anew, in the memory that it has. Each state of a plan's run is so: its
-- tables keep their sizes, devices their steps and targets their depths.
use Rattle.std.specs.Prelude.{ℕ, ◌≡◌, ◌+◌, length}
use Rattle.wdf_base.specs.declared.plan.Plan.{Plan}
use Rattle.wdf_model.specs.Plans.{device_of}
use Rattle.wdf_model.specs.parts.Pnp.{opening_sequence, sequence_of}
use Rattle.wdf_model.specs.parts.Targets.{opening_targets, the_target}
use Rattle.wdf_model.specs.State.{State}

pub record IsSized {A : Type 0} (plan : Plan) (S : State A) : Type 0 where
  pub dispatch : length S.queues.dispatch ≡ 1 + length plan.declared
  pub controls : length S.control.controls ≡ 1 + length plan.declared
  pub powers : length S.power.devices ≡ 1 + length plan.declared
  pub sequences : length S.pnp.devices ≡ 1 + length plan.declared
  pub steps : (d : ℕ) → (sequence_of S.pnp d).steps ≡ (opening_sequence plan d (device_of plan d)).steps
  pub targets : length S.targets.targets ≡ 1 + length plan.declared
  pub depths : (t : ℕ) → (the_target S.targets t).depth ≡ (the_target (opening_targets plan) t).depth
  pub stacks : length S.cpus.stacks ≡ plan.cpus
  pub dpcs : length S.dpcs.lists ≡ plan.cpus
