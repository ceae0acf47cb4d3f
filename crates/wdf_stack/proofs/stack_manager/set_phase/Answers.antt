-- One device more is changed.
use Rattle.std.proofs.Common.{add-one, refl}
use Rattle.wdf_model.specs.agents.StackManager.{with_phase_one}
use Rattle.wdf_dev.proofs.Mapping.{changed_next}
use Rattle.wdf_stack.proofs.stack_manager.set_phase.Goals as goal

pub loop-k-preserved : goal.loop-k-preserved
loop-k-preserved c =
    rw (c.with_phase_one.ensures, c.loop-k.invariant, add-one, changed_next (with_phase_one c.args.device.0 c.args.phase) c.args.devices.now c.loop-k.k _ c.loop-k-test.true) refl
