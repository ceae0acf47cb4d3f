-- The request at the next place.
use Rattle.std.proofs.Common.{ap, sym}
use Rattle.wdf_model.specs.parts.Queues.{Queues}
use Rattle.wdf_queue.proofs.Places.{next_waiting_at, no_place}
use Rattle.wdf_queue.proofs.queues.Queues.next_waiting.Goals as goal

pub returns-in_err-_queue-clause-after : goal.returns-in_err-_queue-clause-after
returns-in_err-_queue-clause-after c = λ q k here.
    let lists = ap (λ (Q : Queues). Q.waiting) c.self.view_is in
    absurd (no_place c.self.inside.waiting c.args.self.now lists c.owner.ensures.apart q k c.args.r.0 here (sym c.in_err-_queue.ensures.list))

pub returns-clause-after : goal.returns-clause-after
returns-clause-after c = λ q k here.
    let lists = ap (λ (Q : Queues). Q.waiting) c.self.view_is in
    rw (c.object_at.ensures, c.after.ensures) (next_waiting_at c.self.inside.waiting c.args.self.now lists c.owner.ensures.apart q k c.args.r.0 here)
