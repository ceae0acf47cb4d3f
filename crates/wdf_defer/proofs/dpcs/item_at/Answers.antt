use Rattle.std.proofs.Common.{◌∙◌}
use Rattle.wdf_ilist.specs.Family.{list_at}
use Rattle.wdf_defer.proofs.DpcLists.{first_is, after_at}
use Rattle.wdf_defer.proofs.dpcs.item_at.Goals as goal

pub loop-place-init : goal.loop-place-init
loop-place-init c = c.front-item.ensures.first ∙ first_is (list_at c.args.links.now.lists c.args.list)

pub loop-place-preserved : goal.loop-place-preserved
loop-place-preserved c = c.after-item.ensures ∙ after_at c.args.links.now c.args.list c.loop-place._place c.loop-place.item c.front-item.ensures.apart c.loop-place.invariant
