use Rattle.std.proofs.Common.{◌≡◌, length}
use Rattle.test_part_cpus.proofs.dpcs.first_wrong.Given as goal

abbrev pub invariant-all : goal.invariant-all
invariant-all l = length l.dpcs.lists ≡ 2
