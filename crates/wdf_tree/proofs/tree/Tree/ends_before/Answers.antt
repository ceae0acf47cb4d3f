-- The members of the set below an id are those objects.
use Rattle.wdf_tree.specs.Inside.{tree_in}
use Rattle.wdf_tree.proofs.EndsKept.{ends_below}
use Rattle.wdf_tree.proofs.tree.Tree.ends_before.Goals as goal

pub returns : goal.returns
returns c =
    rw (c.before-lesser.ensures, ← c.self.view_is)
    (ends_below (tree_in c.self.inside) c.self.inside.children c.self.inside.ends c.self.invariant.ends c.self.invariant.kept.kin c.self.invariant.kept.few c.args.o.0)
