-- The device of one object more.
use Rattle.std.proofs.Common.{add-one, refl}
use Rattle.wdf_plan_index.specs.Keys.{device_over}
use Rattle.wdf_plan_index.proofs.Gathering.{mapped}
use Rattle.wdf_plan_index.proofs.keys.devices_over.Goals as goal

pub loop-k-preserved : goal.loop-k-preserved
loop-k-preserved c =
    rw (c.in_ok-push.ensures.items, c.loop-k.invariant, c.device_over.ensures, add-one, mapped device_over c.args.plan.now.declared c.loop-k.k c.get.result c.get.ensures) refl
