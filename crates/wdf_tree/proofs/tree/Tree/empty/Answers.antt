use Rattle.std.proofs.Common.{◌≡◌, [], ◌∷◌, refl, ◌*◌, ◌∙◌, arith, lit≤}
use Rattle.std.specs.Int.{div_ceil}
use Rattle.wdf_model.specs.parts.Tree.{gone}
use Rattle.wdf_tree.proofs.Counting.{counted_at_first}
use Rattle.wdf_tree.proofs.EndsKept.{ends_at_first}
use Rattle.wdf_tree.proofs.Kept.{kept_at_first}
use Rattle.wdf_tree.proofs.Leaving.{leaving_at_first}
use Rattle.wdf_tree.proofs.Turns.{turns_at_first}
use Rattle.wdf_tree.proofs.tree.Tree.empty.Goals as goal

pub invariant_of-result : goal.invariant_of-result
invariant_of-result c =
    let nodes : c.push.new.self ≡ gone ∷ [] = c.push.ensures ∙ rw (c.in_ok-nodes.ensures, c.blank.ensures) refl in
    let devices : c.push_reserved.new.self.items ≡ record { 0 = 1 } ∷ [] = c.push_reserved.ensures.items ∙ rw c.in_ok-devices.ensures.items refl in
    let room = c.push_reserved.ensures.capacity in
    record {
      kept = kept_at_first _ _ _ c.args.room _ _ nodes devices (omega (arith, c.in_ok-devices.ensures.exact)) c.requires c.in_ok-children.ensures c.in_ok-waiting.ensures;
      counted = counted_at_first _ (4096 * div_ceil c.args.room 4096) _ nodes (rw c.requires (lit≤ tt)) c.in_ok-counted.ensures;
      leaving = leaving_at_first _ (4096 * div_ceil c.args.room 4096) (4096 * div_ceil c.args.room 4096) _ _ nodes (rw c.requires (lit≤ tt)) (rw c.requires (lit≤ tt)) c.in_ok-asked.ensures.first c.in_ok-asked.ensures.second;
      turns = turns_at_first _ _ (4096 * div_ceil c.args.room 4096) _ nodes (rw c.requires (lit≤ tt)) c.in_ok-asked.ensures.third;
      ends = ends_at_first _ _ (4096 * div_ceil c.args.room 4096) _ nodes (rw c.requires (lit≤ tt)) c.in_ok-asked.ensures.fourth;
    }
