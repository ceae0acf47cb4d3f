-- The members of the set are those objects.
use Rattle.wdf_tree.specs.Inside.{tree_in}
use Rattle.wdf_tree.proofs.Turns.{first_turn}
use Rattle.wdf_tree.proofs.tree.Tree.turn_from.Goals as goal

pub returns : goal.returns
returns c =
    rw (c.object_at.ensures, c.from.ensures, ← c.self.view_is)
    (first_turn (tree_in c.self.inside) c.self.inside.waiting c.self.inside.turns c.self.invariant.turns c.self.invariant.kept.waiting_kin c.self.invariant.kept.few c.args.from.0)
