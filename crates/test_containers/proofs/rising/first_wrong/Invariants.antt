use Rattle.std.proofs.Common.{◌≡◌}
use Rattle.test_containers.proofs.rising.first_wrong.Given as goal

abbrev pub invariant-all : goal.invariant-all
invariant-all l = l.timers.room ≡ 4
