-- One sequence more, and all.
use Rattle.std.proofs.Common.{arith}
use Rattle.wdf_declared.proofs.Ids.{ids_all, ids_more}
use Rattle.wdf_pnp.specs.Opening.{sequence_at}
use Rattle.wdf_pnp.proofs.pnp.opening_devices.Goals as goal

pub loop-id-preserved : goal.loop-id-preserved
loop-id-preserved c =
    ids_more (sequence_at c.args.plan.now) _ _ c.in_ok-make.field-0 c.loop-id.id c.loop-id.invariant c.in_ok-make.ensures c.in_ok-push.ensures.items

pub returns : goal.returns
returns c = ids_all (sequence_at c.args.plan.now) _ c.loop-id.id _ c.loop-id.invariant (omega arith)
