-- The members of the set are those objects.
use Rattle.std.proofs.Common.{refl}
use Rattle.wdf_base.specs.Lives.{is_cleaned}
use Rattle.wdf_tree.proofs.Leaving.{first_passing}
use Rattle.wdf_tree.proofs.tree.Tree.cleaned_from.Goals as goal

pub returns : goal.returns
returns c =
    rw (c.object_at.ensures, c.from.ensures, ← c.self.view_is)
    (first_passing is_cleaned c.self.inside.nodes c.self.inside.cleaned c.args.from.0 refl c.self.invariant.kept.few c.self.invariant.leaving.cleaned)
