-- What is left in the queue is cleared by the rest.
use Rattle.std.proofs.Common.{◌≡◌, length}
use Rattle.wdf_model.specs.parts.Queues.{clear, waiting_in}
use Rattle.wdf_queue.proofs.queues.Queues.clear.Given as goal

abbrev pub invariant-loop-q : goal.invariant-loop-q
invariant-loop-q l = record {
  kinds : l.self.dispatch ≡ l.initial.self.dispatch;
  long : length l.self.waiting ≡ length l.initial.self.dispatch;
  rest : clear l.self l.q.0 ≡ clear l.initial.self l.q.0;
}

abbrev pub decreases-loop-q : goal.decreases-loop-q
decreases-loop-q l = length (waiting_in l.self l.q.0)
