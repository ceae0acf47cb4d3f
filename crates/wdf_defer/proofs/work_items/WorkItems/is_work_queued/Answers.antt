use Rattle.std.proofs.Common.{◌∙◌}
use Rattle.wdf_defer.proofs.QueuedWork.{is_member}
use Rattle.wdf_defer.proofs.work_items.WorkItems.is_work_queued.Goals as goal

pub returns : goal.returns
returns c = rw (← c.self.view_is) (c.contains.ensures ∙ is_member c.args.o.0 c.self.inside.queued)
