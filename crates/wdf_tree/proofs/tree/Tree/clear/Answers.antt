-- No object is there, as at first.
use Rattle.std.proofs.Common.{◌≡◌, [], ◌∷◌, length, refl, ◌∙◌, arith}
use Rattle.wdf_ilist.proofs.Lists.{cleared}
use Rattle.wdf_model.specs.parts.Tree.{gone}
use Rattle.wdf_tree.proofs.Counting.{counted_at_first}
use Rattle.wdf_tree.proofs.EndsKept.{ends_at_first}
use Rattle.wdf_tree.proofs.Kept.{kept_at_first}
use Rattle.wdf_tree.proofs.Leaving.{leaving_at_first}
use Rattle.wdf_tree.proofs.Turns.{turns_at_first}
use Rattle.wdf_tree.proofs.tree.Tree.clear.Goals as goal

pub push_reserved-requires : goal.push_reserved-requires
push_reserved-requires c = let room = c.self.invariant.kept.room_for_devices in omega (arith, c.clear-2.ensures.len, c.clear-2.ensures.capacity)

pub invariant_of-self : goal.invariant_of-self
invariant_of-self c =
    let t = c.self.inside in
    let kept = c.self.invariant.kept in
    let nodes : c.push.new.self ≡ gone ∷ [] = c.push.ensures ∙ rw (c.clear.ensures, c.blank.ensures) refl in
    let devices : c.push_reserved.new.self.items ≡ record { 0 = 1 } ∷ [] = c.push_reserved.ensures.items ∙ rw c.clear-2.ensures.items refl in
    record {
      kept = kept_at_first _ _ _ 204097 _ _ nodes devices (rw (c.push_reserved.ensures.capacity, c.clear-2.ensures.capacity) kept.room_for_devices) refl
          (cleared t.children c.clear-3.new.self 204097 204097 kept.kin.as_many kept.kin.room c.clear-3.ensures) (cleared t.waiting c.clear-4.new.self 204097 204097 kept.waiting_kin.as_many kept.waiting_kin.room c.clear-4.ensures);
      counted = counted_at_first _ (length t.counted) _ nodes c.self.invariant.counted.room c.clear-9.ensures;
      leaving = leaving_at_first _ (length t.asked) (length t.cleaned) _ _ nodes c.self.invariant.leaving.asked.room c.self.invariant.leaving.cleaned.room c.clear-5.ensures c.clear-6.ensures;
      turns = turns_at_first _ _ (length t.turns) _ nodes c.self.invariant.turns.room c.clear-7.ensures;
      ends = ends_at_first _ _ (length t.ends) _ nodes c.self.invariant.ends.room c.clear-8.ensures;
    }
