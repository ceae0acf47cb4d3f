use Rattle.std.proofs.Common.{◌≤◌, length}
use Rattle.test_containers.proofs.sets.first_wrong.Given as goal

abbrev pub invariant-all : goal.invariant-all
invariant-all l = l.fn.bound ≤ length l.set
