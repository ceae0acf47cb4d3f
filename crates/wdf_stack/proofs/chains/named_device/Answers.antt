-- The first device that the target names.
use Rattle.std.proofs.Common.{sym, ap, ◌∙◌, find}
use Rattle.wdf_model.specs.agents.Chains.{names_device}
use Rattle.wdf_stack.proofs.Finding.{find_first, find_none, none_before_next}
use Rattle.wdf_stack.proofs.chains.named_device.Goals as goal

pub returns-then-names_device : goal.returns-then-names_device
returns-then-names_device c =
    find_first (names_device c.args.plan.now c.args.target) c.args.devices.now c.loop-device.device-index _ c.loop-device-test.true c.loop-device.invariant (sym c.names_device.ensures ∙ c.if-names_device.true)
    ∙ ap (find (names_device c.args.plan.now c.args.target)) c.requires.devices

pub loop-device-preserved : goal.loop-device-preserved
loop-device-preserved c =
    none_before_next (names_device c.args.plan.now c.args.target) c.args.devices.now c.loop-device.device-index _ c.loop-device-test.true c.loop-device.invariant (sym c.names_device.ensures ∙ c.if-names_device.false)

pub returns : goal.returns
returns c =
    find_none (names_device c.args.plan.now c.args.target) c.args.devices.now c.loop-device.device-index c.loop-device-test.false c.loop-device.invariant
    ∙ ap (find (names_device c.args.plan.now c.args.target)) c.requires.devices
