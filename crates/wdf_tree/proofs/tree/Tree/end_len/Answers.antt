-- The members of the set are those objects.
use Rattle.std.proofs.Common.{ap, length}
use Rattle.wdf_tree.specs.Inside.{tree_in}
use Rattle.wdf_tree.proofs.EndsKept.{ends_are}
use Rattle.wdf_tree.proofs.tree.Tree.end_len.Goals as goal

pub returns-clause-count : goal.returns-clause-count
returns-clause-count c =
    rw (c.len.ensures, ← c.self.view_is)
    (ap length (ends_are (tree_in c.self.inside) c.self.inside.children c.self.inside.ends c.self.invariant.ends c.self.invariant.kept.kin c.self.invariant.kept.few))

pub returns-clause-room : goal.returns-clause-room
returns-clause-room c = rw (← c.self.view_is) c.self.invariant.kept.few
