-- The first device that is this one.
use Rattle.std.proofs.Common.{sym, ◌∙◌}
use Rattle.wdf_model.specs.agents.StackManager.{is_device}
use Rattle.wdf_stack.proofs.Finding.{find_first, find_none, none_before_next}
use Rattle.wdf_stack.proofs.stack_manager.known.Goals as goal

pub returns-then-same_object_id : goal.returns-then-same_object_id
returns-then-same_object_id c =
    find_first (is_device c.args.device.0) c.args.devices.now c.loop-known.known-index _ c.loop-known-test.true c.loop-known.invariant (sym c.same_object_id.ensures.value ∙ c.if-same_object_id.true)

pub loop-known-preserved : goal.loop-known-preserved
loop-known-preserved c =
    none_before_next (is_device c.args.device.0) c.args.devices.now c.loop-known.known-index _ c.loop-known-test.true c.loop-known.invariant (sym c.same_object_id.ensures.value ∙ c.if-same_object_id.false)

pub returns : goal.returns
returns c = find_none (is_device c.args.device.0) c.args.devices.now c.loop-known.known-index c.loop-known-test.false c.loop-known.invariant
