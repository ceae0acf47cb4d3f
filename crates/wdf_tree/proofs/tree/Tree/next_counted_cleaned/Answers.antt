-- Both sets have the objects that are cleaned up, and that count.
use Rattle.std.proofs.Common.{◌&&◌, ap, subst, ◌∙◌, MatchOption}
use Rattle.wdf_base.specs.Lives.{is_cleaned}
use Rattle.wdf_model.specs.parts.Tree.{life_of}
use Rattle.wdf_sets.specs.Members.{is_in}
use Rattle.wdf_sets.specs.Nexts.{IsNext, NoneFrom}
use Rattle.wdf_tree.specs.Inside.{tree_in}
use Rattle.wdf_tree.specs.Turns.{is_counted_cleaned}
use Rattle.wdf_tree.proofs.Counting.{found_also, in_both}
use Rattle.wdf_tree.proofs.tree.Tree.next_counted_cleaned.Goals as goal

pub returns : goal.returns
returns c =
    let t = c.self.inside in
    let T = tree_in t in
    subst (λ U. MatchOption c.first_in_both.result (NoneFrom (is_counted_cleaned U) c.args.from c.args.end) (IsNext (is_counted_cleaned U) c.args.from c.args.end)) c.self.view_is
    (found_also (in_both t.cleaned t.counted) (is_counted_cleaned T) c.args.from c.args.end
    (λ id. ap (λ b. b && is_in id t.counted) (c.self.invariant.leaving.cleaned.same id) ∙ ap (λ b. is_cleaned (life_of T id) && b) (c.self.invariant.counted.same id)) c.first_in_both.result c.first_in_both.ensures)
