use Rattle.std.proofs.Common.{◌≡◌, ◌≤◌, length}
use Rattle.wdf_model.specs.parts.Queues.{held_in}
use Rattle.test_part_queues.proofs.queues.first_wrong.Given as goal

abbrev pub invariant-all : goal.invariant-all
invariant-all l = (length l.queues.dispatch ≡ 6) × (held_in l.queues ≤ l.at)
