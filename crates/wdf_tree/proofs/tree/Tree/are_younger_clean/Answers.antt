use Rattle.std.proofs.Common.{◌≡◌, length, ap, ◌∙◌, arith}
use Rattle.wdf_ilist.specs.Family.{last_of, list_at}
use Rattle.wdf_model.specs.Tables.{same_id}
use Rattle.wdf_model.specs.declared.entries.Node.{Node}
use Rattle.wdf_model.specs.parts.Tree.{Tree, parent_of}
use Rattle.wdf_tree.specs.Kin.{is_kin, is_waiting, places}
use Rattle.std.proofs.Common.{List}
use Rattle.wdf_tree.proofs.Children.{last_waiting}
use Rattle.wdf_tree.proofs.Kept.{there_if_asked}
use Rattle.wdf_tree.proofs.tree.Tree.are_younger_clean.Goals as goal

pub returns : goal.returns
returns c =
    let parent = parent_of c.args.self.now c.args.o.0 in
    let there = there_if_asked c.args.self.now.nodes c.args.o.0 c.requires.asked in
    let above = there_if_asked c.args.self.now.nodes parent c.requires.parent in
    let view : c.self.inside.nodes ≡ c.args.self.now.nodes = ap (λ (t : Tree). t.nodes) c.self.view_is in
    let few = ap (λ (ns : List Node). length ns) view in
    let kin : list_at c.self.inside.waiting.lists parent ≡ places (is_kin is_waiting parent) 0 c.args.self.now.nodes
    = c.self.invariant.kept.waiting_kin.kin parent (omega arith) ∙ ap (places (is_kin is_waiting parent) 0) view in
    c.is_id.ensures
    ∙ ap (λ found. same_id found c.args.o.0) (c.object_at.ensures ∙ c.back.ensures ∙ ap (λ q. last_of (list_at c.self.inside.waiting.lists q)) c.parent.ensures ∙ ap last_of kin)
    ∙ last_waiting c.args.self.now c.args.o.0 there c.requires.asked
