-- The name of one script more.
use Rattle.std.proofs.Common.{add-one, refl}
use Rattle.wdf_plan_index.specs.Keys.{script_name}
use Rattle.wdf_plan_index.proofs.Gathering.{mapped}
use Rattle.wdf_plan_index.proofs.keys.script_names.Goals as goal

pub loop-k-preserved : goal.loop-k-preserved
loop-k-preserved c =
    rw (c.in_ok-push.ensures.items, c.loop-k.invariant, c.owner_name.ensures, add-one, mapped (script_name c.args.plan.now) c.args.plan.now.scripts c.loop-k.k c.item.result.now c.item.ensures) refl
