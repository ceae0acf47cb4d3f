-- The members of the set are those objects.
use Rattle.std.proofs.Common.{ap, slice_get}
use Rattle.wdf_tree.specs.Inside.{tree_in}
use Rattle.wdf_tree.proofs.EndsKept.{ends_are}
use Rattle.wdf_tree.proofs.tree.Tree.end_at.Goals as goal

pub returns : goal.returns
returns c =
    rw (c.object_at.ensures, c.at.ensures, ← c.self.view_is)
    (ap (λ ids. slice_get ids c.args.k) (ends_are (tree_in c.self.inside) c.self.inside.children c.self.inside.ends c.self.invariant.ends c.self.invariant.kept.kin c.self.invariant.kept.few))
