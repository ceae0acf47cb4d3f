use Rattle.std.proofs.Common.{◌≡◌, length}
use Rattle.test_part_queues.proofs.control.first_wrong.Given as goal

abbrev pub invariant-all : goal.invariant-all
invariant-all l = length l.control.controls ≡ 6
