-- One device more.
use Rattle.std.proofs.Common.{add-one, refl, slice_index_or}
use Rattle.std.proofs.lemmas.Option.{slice_get-get_or}
use Rattle.wdf_model.specs.agents.StackManager.{stack_device}
use Rattle.wdf_dev.proofs.Gathering.{one_more_mapped}
use Rattle.wdf_stack.proofs.stack_manager.stack_devices.Goals as goal

pub loop-device-preserved : goal.loop-device-preserved
loop-device-preserved c =
    rw (c.in_ok-push.ensures.items, c.loop-device.invariant, add-one, one_more_mapped (stack_device c.args.plan.now) c.args.devices.now c.loop-device.device-index (slice_index_or c.args.devices.now c.loop-device.device-index 0) (slice_get-get_or c.args.devices.now c.loop-device.device-index 0 c.loop-device-test.true), ← c.stack_device.ensures) refl
