-- One id more.
use Rattle.std.proofs.Common.{◌≡◌, ap, length, arith}
use Rattle.wdf_model.specs.parts.Tree.{Tree}
use Rattle.wdf_tree.proofs.Gathering.{few_gathered}
use Rattle.wdf_tree.proofs.tree.Tree.gather_over.Goals as goal

pub push_if-requires : goal.push_if-requires
push_if-requires c =
    let few = few_gathered c.args.self.now c.args.o c.loop-id.id c.loop-id.ids.items c.loop-id.invariant.gathered in
    let all = c.self.invariant.kept.few in
    let view : length c.self.inside.nodes ≡ length c.args.self.now.nodes = ap (λ (t : Tree). length t.nodes) c.self.view_is in
    omega (arith, c.loop-id.invariant.capacity, c.requires.capacity)
