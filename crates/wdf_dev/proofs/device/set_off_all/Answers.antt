-- One action more.
use Rattle.std.proofs.Common.{add-one, refl}
use Rattle.wdf_model.specs.agents.Device.{set_off}
use Rattle.wdf_dev.proofs.Mapping.{changed_next}
use Rattle.wdf_dev.proofs.device.set_off_all.Goals as goal

pub loop-at-preserved : goal.loop-at-preserved
loop-at-preserved c =
    rw (c.set_off.ensures, c.loop-at.invariant, add-one, changed_next (set_off c.args.access c.args.k c.args.now) c.args.actions.now c.loop-at.at _ c.loop-at-test.true) refl
