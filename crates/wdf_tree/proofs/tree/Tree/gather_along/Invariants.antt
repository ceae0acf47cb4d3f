-- What comes before an id is gathered.
use Rattle.std.proofs.Common.{◌≡◌, ◌-◌, length, vec_capacity}
use Rattle.wdf_tree.specs.Gathering.{AreGathered}
use Rattle.wdf_tree.proofs.tree.Tree.gather_along.Given as goal

abbrev pub invariant-walk : goal.invariant-walk
invariant-walk l = record {
  walked : AreGathered l.self l.o l.from l.ids.items l.ahead;
  capacity : vec_capacity l.ids ≡ vec_capacity l.fn.ids;
  size : length l.ahead ≡ length l.fn.ahead;
}

abbrev pub decreases-walk : goal.decreases-walk
decreases-walk l = length l.self.nodes - l.from
