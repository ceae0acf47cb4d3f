use Rattle.std.proofs.Common.{◌≡◌, length}
use Rattle.test_containers.proofs.lists.first_wrong.Given as goal

abbrev pub invariant-all : goal.invariant-all
invariant-all l = (length l.links.lists ≡ 2) × (l.links.items ≡ 4)
