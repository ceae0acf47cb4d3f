use Rattle.std.proofs.Common.{length, false, ap, ◌∙◌}
use Rattle.std.proofs.lemmas.List.{length-replicate}
use Rattle.wdf_defer.proofs.QueuedWork.{made_empty}
use Rattle.wdf_defer.proofs.work_items.clear_set.Goals as goal

pub returns : goal.returns
returns c = record {
  members = made_empty (length c.args.set.now) _ c.clear.ensures;
  room = ap length c.clear.ensures ∙ length-replicate (length c.args.set.now) false;
}
