-- Both sets have the objects whose cleanup may come, and that count.
use Rattle.std.proofs.Common.{◌&&◌, ap, subst, ◌∙◌, MatchOption}
use Rattle.wdf_model.specs.parts.Tree.{may_clean}
use Rattle.wdf_sets.specs.Members.{is_in}
use Rattle.wdf_sets.specs.Nexts.{IsNext, NoneFrom}
use Rattle.wdf_tree.specs.Inside.{tree_in}
use Rattle.wdf_tree.specs.Turns.{is_counted_turn}
use Rattle.wdf_tree.proofs.Counting.{found_also, in_both}
use Rattle.wdf_tree.proofs.Turns.{turns_right}
use Rattle.wdf_tree.proofs.tree.Tree.next_counted_turn.Goals as goal

pub returns : goal.returns
returns c =
    let t = c.self.inside in
    let T = tree_in t in
    let right = turns_right T t.waiting t.turns c.self.invariant.turns c.self.invariant.kept.waiting_kin c.self.invariant.kept.few in
    subst (λ U. MatchOption c.first_in_both.result (NoneFrom (is_counted_turn U) c.args.from c.args.end) (IsNext (is_counted_turn U) c.args.from c.args.end)) c.self.view_is
    (found_also (in_both t.turns t.counted) (is_counted_turn T) c.args.from c.args.end
    (λ id. ap (λ b. b && is_in id t.counted) (right id) ∙ ap (λ b. may_clean T id && b) (c.self.invariant.counted.same id)) c.first_in_both.result c.first_in_both.ensures)
