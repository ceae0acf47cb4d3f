use Rattle.std.proofs.Common.{◌≡◌, ◌<◌, length}
use Rattle.wdf_model.specs.parts.Tree.{is_below}
use Rattle.wdf_tree.proofs.tree.Tree.is_below.Given as goal

abbrev pub invariant-up : goal.invariant-up
invariant-up l = (l.at.0 < length l.self.nodes) × (is_below l.self l.o.0 l.at.0 ≡ is_below l.self l.o.0 l.fn.below.0)

abbrev pub decreases-up : goal.decreases-up
decreases-up l = l.at.0
