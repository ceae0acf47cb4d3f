-- No id before this one is of a device with steps left.
use Rattle.std.proofs.Common.{sym, ◌∙◌, suc, length, arith}
use Rattle.wdf_ready.proofs.AnyOf.{is_open_device, next_id_fails, no_id, some_id, some_open_devices}
use Rattle.wdf_ready.proofs.endings.any_open_device.Goals as goal

pub returns-then-is_open_device : goal.returns-then-is_open_device
returns-then-is_open_device g c =
    let plan = c.args.plan.now in
    let S = c.args.parts.now in
    let below = c.loop-id-test.true in
    sym (some_open_devices S plan
    ∙ some_id (is_open_device S plan) (suc (length plan.declared)) c.loop-id.id (omega (arith, c.declared_end-id-end.ensures.value)) (sym c.is_open_device.ensures ∙ c.if-is_open_device.true))

pub loop-id-preserved : goal.loop-id-preserved
loop-id-preserved g c =
    next_id_fails (is_open_device c.args.parts.now c.args.plan.now) c.loop-id.id c.loop-id.invariant (sym c.is_open_device.ensures ∙ c.if-is_open_device.false)

pub returns : goal.returns
returns g c =
    let plan = c.args.plan.now in
    let S = c.args.parts.now in
    let over = c.loop-id-test.false in
    sym (some_open_devices S plan
    ∙ no_id (is_open_device S plan) (suc (length plan.declared)) c.loop-id.id (omega (arith, c.declared_end-id-end.ensures.value)) c.loop-id.invariant)
