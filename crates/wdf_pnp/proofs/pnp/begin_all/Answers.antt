-- One device more begins anew, and all.
use Rattle.std.proofs.Common.{◌<◌, length, ap, ◌∙◌, arith}
use Rattle.std.proofs.lemmas.List.{get_or_default}
use Rattle.wdf_declared.proofs.Ids.{anew_all, anew_more, anew_none}
use Rattle.wdf_model.specs.parts.Pnp.{Sequence, no_sequence}
use Rattle.wdf_pnp.specs.Opening.{sequence_at}
use Rattle.wdf_pnp.proofs.pnp.begin_all.Goals as goal

pub loop-id-init : goal.loop-id-init
loop-id-init c = anew_none (sequence_at c.args.plan.now) c.args.devices.now.items

pub index_mut-device-requires : goal.index_mut-device-requires
index_mut-device-requires c = let many = c.loop-id.invariant.as_many in omega (arith, c.requires.ids)

pub begin_again-requires : goal.begin_again-requires
begin_again-requires c =
    let many = c.loop-id.invariant.as_many in
    let within : c.loop-id.id < length c.loop-id.devices.items = omega (arith, c.requires.ids) in
    ap (λ (q : Sequence). q.steps) (c.index_mut-device.ensures.value ∙ get_or_default c.loop-id.devices.items c.loop-id.id c.index_mut-device.result.now no_sequence within ∙ c.loop-id.invariant.left no_sequence c.loop-id.id (omega arith))
    ∙ c.requires.steps c.loop-id.id

pub loop-id-preserved : goal.loop-id-preserved
loop-id-preserved c =
    anew_more (sequence_at c.args.plan.now) c.args.devices.now.items c.loop-id.devices.items c.loop-id.id c.begin_again.new.self (omega (arith, c.requires.ids)) c.begin_again.ensures c.loop-id.invariant

pub returns : goal.returns
returns c = anew_all no_sequence (sequence_at c.args.plan.now) c.args.devices.now.items _ c.loop-id.id _ c.loop-id.invariant (omega (arith, c.requires.ids)) (omega arith)
