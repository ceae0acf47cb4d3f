use Rattle.std.proofs.Common.{◌≡◌, true, false, List, Some, length, option_and_then, refl, sym, ap, subst, ◌∙◌, arith}
use Rattle.wdf_base.specs.Lives.{is_asked, is_cleaned}
use Rattle.wdf_ilist.specs.Family.{after_on, first_of, list_at, list_of}
use Rattle.wdf_model.specs.declared.entries.Node.{Node}
use Rattle.wdf_model.specs.parts.Tree.{Tree, life_of, parent_of}
use Rattle.wdf_tree.specs.Kin.{HoldsKin, is_kin, is_left, is_waiting, places}
use Rattle.wdf_maps.specs.Least.{lesser_if}
use Rattle.wdf_tree.specs.Inside.{EndsAlone}
use Rattle.wdf_tree.proofs.Firsts.{first_child, first_left, first_of_both, list_of_waiting, waits_under_asked}
use Rattle.wdf_tree.proofs.Kept.{there_if_asked}
use Rattle.wdf_tree.proofs.tree.Tree.first_id.Goals as goal

pub returns-then-is_cleaned : goal.returns-then-is_cleaned
returns-then-is_cleaned c =
    let V : Tree = c.args.self.now in
    let o = c.args.o.0 in
    let view : c.self.inside.nodes ≡ V.nodes = ap (λ (t : Tree). t.nodes) c.self.view_is in
    let few = ap (λ (ns : List Node). length ns) view in
    let cleaned : is_cleaned (life_of V o) ≡ true = ap is_cleaned (sym c.life.ensures) ∙ sym c.is_cleaned.ensures ∙ c.if-is_cleaned.true in
    let kids : list_at c.self.inside.children.lists o ≡ places (is_kin is_left o) 0 V.nodes = c.self.invariant.kept.kin.kin o (omega arith) ∙ ap (places (is_kin is_left o) 0) view in
    c.front.ensures.first ∙ ap first_of kids ∙ sym (first_left V o cleaned)

pub returns-then-not-is_asked : goal.returns-then-not-is_asked
returns-then-not-is_asked c =
    let V : Tree = c.args.self.now in
    let o = c.args.o.0 in
    let view : c.self.inside.nodes ≡ V.nodes = ap (λ (t : Tree). t.nodes) c.self.view_is in
    let few = ap (λ (ns : List Node). length ns) view in
    let cleaned : is_cleaned (life_of V o) ≡ false = ap is_cleaned (sym c.life.ensures) ∙ sym c.is_cleaned.ensures ∙ c.if-is_cleaned.false in
    let mine : list_at c.self.inside.waiting.lists o ≡ places (is_kin is_waiting o) 0 V.nodes = c.self.invariant.kept.waiting_kin.kin o (omega arith) ∙ ap (places (is_kin is_waiting o) 0) view in
    let asked : is_asked (life_of V (parent_of V o)) ≡ false = ap (λ q. is_asked (life_of V q)) (sym c.parent.ensures) ∙ ap is_asked (sym c.life-2.ensures) ∙ sym c.is_asked.ensures ∙ c.if-not-is_asked.true in
    c.front-child.ensures.first ∙ ap first_of mine ∙ sym (first_child V o cleaned asked)

pub returns : goal.returns
returns c =
    let V : Tree = c.args.self.now in
    let o = c.args.o.0 in
    let view : c.self.inside.nodes ≡ V.nodes = ap (λ (t : Tree). t.nodes) c.self.view_is in
    let few = ap (λ (ns : List Node). length ns) view in
    let cleaned : is_cleaned (life_of V o) ≡ false = ap is_cleaned (sym c.life.ensures) ∙ sym c.is_cleaned.ensures ∙ c.if-is_cleaned.false in
    let mine : list_at c.self.inside.waiting.lists o ≡ places (is_kin is_waiting o) 0 V.nodes = c.self.invariant.kept.waiting_kin.kin o (omega arith) ∙ ap (places (is_kin is_waiting o) 0) view in
    let asked : is_asked (life_of V (parent_of V o)) ≡ true = ap (λ q. is_asked (life_of V q)) (sym c.parent.ensures) ∙ ap is_asked (sym c.life-2.ensures) ∙ sym c.is_asked.ensures ∙ c.if-not-is_asked.false in
    let kin = subst (λ ns. HoldsKin is_waiting ns c.self.inside.waiting) view c.self.invariant.kept.waiting_kin in
    let waits = waits_under_asked V.nodes o (subst EndsAlone view c.self.invariant.kept.ends) c.requires.there cleaned asked in
    let above = there_if_asked V.nodes (parent_of V o) asked in
    let listed : list_of o c.self.inside.waiting.lists ≡ Some (parent_of V o) = list_of_waiting V.nodes c.self.inside.waiting o (parent_of V o) kin c.requires.there (omega arith) (omega arith) refl waits in
    let ours : list_at c.self.inside.waiting.lists (parent_of V o) ≡ places (is_kin is_waiting (parent_of V o)) 0 V.nodes = kin.kin (parent_of V o) (omega arith) in
    let next : c.after.result ≡ after_on o (places (is_kin is_waiting (parent_of V o)) 0 V.nodes)
    = c.after.ensures
    ∙ ap (option_and_then (λ list. after_on o (list_at c.self.inside.waiting.lists list))) listed
    ∙ ap (after_on o) ours in
    c.lesser_if.ensures
    ∙ ap (λ found. lesser_if found c.after.result) (c.front-child.ensures.first ∙ ap first_of mine)
    ∙ ap (lesser_if (first_of (places (is_kin is_waiting o) 0 V.nodes))) next
    ∙ sym (first_of_both V o cleaned asked waits c.requires.there)
