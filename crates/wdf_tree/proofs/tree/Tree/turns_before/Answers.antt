-- The members of the set below an id are those objects.
use Rattle.wdf_tree.specs.Inside.{tree_in}
use Rattle.wdf_tree.proofs.Turns.{turns_below}
use Rattle.wdf_tree.proofs.tree.Tree.turns_before.Goals as goal

pub returns : goal.returns
returns c =
    rw (c.before-lesser.ensures, ← c.self.view_is)
    (turns_below (tree_in c.self.inside) c.self.inside.waiting c.self.inside.turns c.self.invariant.turns c.self.invariant.kept.waiting_kin c.self.invariant.kept.few c.args.o.0)
