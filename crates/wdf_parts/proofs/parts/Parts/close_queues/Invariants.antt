-- The queues that are left come to all of them.
use Rattle.std.proofs.Common.{◌≡◌, ◌≤◌, fold, length}
use Rattle.std.specs.List.{All}
use Rattle.wdf_model.specs.Plans.{queues_of}
use Rattle.wdf_model.specs.rules.Deeds.{close_queue}
use Rattle.wdf_parts.proofs.parts.Parts.close_queues.Given as goal

abbrev pub invariant-loop-q : goal.invariant-loop-q
invariant-loop-q g l = record {
  size : length l.self.queues.dispatch ≡ length l.fn.self.queues.dispatch;
  declared : All (λ q. q ≤ length l.plan.declared) l.q-iterator;
  closed : fold close_queue l.self l.q-iterator ≡ fold close_queue l.fn.self (queues_of l.plan l.fn.device.0);
}
