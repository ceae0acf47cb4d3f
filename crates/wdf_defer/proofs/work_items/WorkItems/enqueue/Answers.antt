use Rattle.std.proofs.Common.{sym, ◌∙◌, arith}
use Rattle.wdf_defer.proofs.QueuedWork.{enqueued}
use Rattle.wdf_defer.proofs.work_items.WorkItems.enqueue.Goals as goal

pub returns-clause-done : goal.returns-clause-done
returns-clause-done c =
    rw c.put.ensures (enqueued c.args.self.now c.args.o.0 c.self.inside.queued c.self.view_is (sym c.is_work_queued.ensures ∙ c.if-is_work_queued.false) (omega (arith, c.requires, c.self.invariant.room)))
