-- One request further.
use Rattle.std.proofs.Common.{sym, ◌∙◌}
use Rattle.wdf_ilist.proofs.Places.{next_at}
use Rattle.wdf_queue.proofs.queues.Queues.waiting_at.Goals as goal

pub loop-place-preserved : goal.loop-place-preserved
loop-place-preserved c =
    rw c.after-found.ensures
    (next_at c.self.inside.waiting c.args.q.0 c.loop-place.place c.in_ok-found.field-0 c.front-found.ensures.apart (sym c.loop-place.invariant ∙ c.in_ok-found.was))
