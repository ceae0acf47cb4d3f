-- One register more.
use Rattle.std.proofs.Common.{add-one, refl}
use Rattle.wdf_model.specs.agents.Device.{register_of}
use Rattle.wdf_dev.proofs.Gathering.{one_more_mapped}
use Rattle.wdf_dev.proofs.device_lines.registers_of.Goals as goal

pub loop-k-preserved : goal.loop-k-preserved
loop-k-preserved c =
    rw (c.in_ok-push.ensures.items, c.loop-k.invariant, add-one, one_more_mapped (register_of c.args.device.0) c.args.plan.now.registers c.loop-k.k c.register.result c.register.ensures, c.register_at.ensures) refl
