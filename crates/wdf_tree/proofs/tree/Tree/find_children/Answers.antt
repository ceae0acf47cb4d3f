-- The children are on the list.
use Rattle.std.proofs.Common.{ap, ◌∙◌, ◌&&◌, ◌||◌, nat_le, arith, length}
use Rattle.wdf_model.specs.parts.Tree.{Tree}
use Rattle.wdf_sets.specs.Members.{is_in}
use Rattle.wdf_tree.specs.Inside.{tree_in}
use Rattle.wdf_tree.proofs.Gathering.{on_children}
use Rattle.wdf_tree.proofs.tree.Tree.find_children.Goals as goal

pub returns-clause-each : goal.returns-clause-each
returns-clause-each c = λ id.
    let few = c.self.invariant.kept.few in
    let view = ap (λ (t : Tree). length t.nodes) c.self.view_is in
    c.put_list.ensures.each id
    ∙ ap (λ b. is_in id c.args.ahead.now || (b && nat_le c.args.first id))
    (on_children (tree_in c.self.inside) c.args.self.now c.self.inside.children c.args.parent id c.self.view_is c.self.invariant.kept.kin (omega (arith, c.requires.there)))
