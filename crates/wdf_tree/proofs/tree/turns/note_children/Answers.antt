-- A child more was noted.
use Rattle.std.proofs.Common.{◌∙◌, length, arith}
use Rattle.std.proofs.lemmas.List.{take_all}
use Rattle.wdf_ilist.specs.Family.{list_at}
use Rattle.wdf_tree.specs.Turns.{is_turn}
use Rattle.wdf_ilist.proofs.Places.{first_at}
use Rattle.wdf_tree.proofs.Lists.{next_place, on_more}
use Rattle.wdf_tree.proofs.Turns.{noted_more, noted_none, one_more}
use Rattle.wdf_tree.proofs.tree.turns.note_children.Goals as goal

pub loop-place-init : goal.loop-place-init
loop-place-init c = record {
  at = c.front-child.ensures.first ∙ first_at (list_at c.args.waiting.now.lists c.args.o.0);
  noted = noted_none (is_turn c.args.nodes.now c.args.waiting.now.lists) _;
  children = λ id below on. absurd (let z : ⊥ = cc in z);
}

pub loop-place-preserved : goal.loop-place-preserved
loop-place-preserved c =
    let test = is_turn c.args.nodes.now c.args.waiting.now.lists in
    let xs = list_at c.args.waiting.now.lists c.args.o.0 in
    record {
      at = c.item_after-child.ensures ∙ next_place c.args.waiting.now c.args.o.0 c.loop-place.place c.loop-place.child c.front-child.ensures.apart c.loop-place.invariant.at;
      noted = noted_more test _ _ _ c.loop-place.invariant.noted c.note_if_any.ensures.noted;
      children = λ id below on. one_more test _ _ (length c.args.nodes.now) c.loop-place.child id _ _ c.note_if_any.ensures.noted c.note_if_any.ensures.own below
          (c.loop-place.invariant.children id below) c.loop-place.invariant.at (on_more xs c.loop-place.place id on);
    }

pub returns-clause-children : goal.returns-clause-children
returns-clause-children c = λ id below on.
    let xs = list_at c.args.waiting.now.lists c.args.o.0 in
    c.loop-place.invariant.children id below (rw (take_all c.loop-place.place xs (let n = c.len-place-end.ensures in omega arith)) on)
