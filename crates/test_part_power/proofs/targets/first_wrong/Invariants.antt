use Rattle.std.proofs.Common.{◌≡◌, length}
use Rattle.test_part_power.proofs.targets.first_wrong.Given as goal

abbrev pub invariant-all : goal.invariant-all
invariant-all l = length l.targets.targets ≡ 5
