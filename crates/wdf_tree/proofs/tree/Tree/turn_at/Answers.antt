-- The members of the set are those objects.
use Rattle.std.proofs.Common.{ap, slice_get}
use Rattle.wdf_tree.specs.Inside.{tree_in}
use Rattle.wdf_tree.proofs.Turns.{turns_are}
use Rattle.wdf_tree.proofs.tree.Tree.turn_at.Goals as goal

pub returns : goal.returns
returns c =
    rw (c.object_at.ensures, c.at.ensures, ← c.self.view_is)
    (ap (λ ids. slice_get ids c.args.k) (turns_are (tree_in c.self.inside) c.self.inside.waiting c.self.inside.turns c.self.invariant.turns c.self.invariant.kept.waiting_kin c.self.invariant.kept.few))
