use Rattle.std.proofs.Common.{◌≡◌, [], length, sym, ap, ◌∙◌, arith}
use Rattle.wdf_model.specs.parts.Tree.{Tree, nearest_devices, own_device}
use Rattle.wdf_tree.specs.Kin.{is_left, is_waiting}
use Rattle.wdf_tree.proofs.Counting.{counted_by_push}
use Rattle.wdf_tree.proofs.EndsKept.{ends_by_push}
use Rattle.wdf_tree.proofs.Kin.{next_is_free}
use Rattle.wdf_tree.proofs.Kept.{devices_as_many, kept_by_push}
use Rattle.wdf_tree.proofs.Leaving.{leaving_by_push}
use Rattle.wdf_tree.proofs.Turns.{turns_after_push}
use Rattle.wdf_tree.proofs.tree.Tree.enter.Goals as goal

pub push_reserved-requires : goal.push_reserved-requires
push_reserved-requires c = let e = devices_as_many c.self.invariant.kept in let f = ap (λ (t : Tree). length t.nodes) c.self.view_is in omega arith

pub invariant_of-self : goal.invariant_of-self
invariant_of-self c =
    let view : length c.self.inside.nodes ≡ length c.args.self.now.nodes = ap (λ (t : Tree). length t.nodes) c.self.view_is in
    record {
      kept = rw (c.push.ensures, c.push_reserved.ensures.items, c.push_reserved.ensures.capacity, c.counted.ensures, c.join.ensures, c.join-2.ensures)
          (kept_by_push c.args.node c.nearest_for-device.result c.len-id.result c.self.invariant.kept (omega arith) c.requires.live
          (c.nearest_for-device.ensures ∙ ap (λ (t : Tree). own_device (nearest_devices [] t.nodes) (length t.nodes) c.args.node) (sym c.self.view_is)) (omega arith));
      counted = rw (c.push.ensures, c.put.ensures) (counted_by_push c.args.node c.len-id.result c.is_counted.result c.self.invariant.counted (omega arith) (omega arith) c.is_counted.ensures);
      leaving = rw c.push.ensures (leaving_by_push c.args.node c.self.invariant.leaving c.requires.live);
      turns = turns_after_push c.args.node c.len-id.result _ _ c.back-last.result c.push.ensures c.join-2.ensures c.self.invariant.turns c.self.invariant.kept.waiting_kin c.requires.live (omega arith)
          c.back-last.ensures
          (record {
            noted = c.note_joined.ensures.noted;
            parent_right = c.note_joined.ensures.parent;
            sibling = c.note_joined.ensures.sibling;
          });
      ends = ends_by_push c.self.inside.children c.args.node c.len-id.result _ _ c.push.ensures c.join.ensures c.self.invariant.ends c.requires.live
          c.note_end.ensures.noted c.note_end.ensures.own;
    }

pub join-requires-clause-free : goal.join-requires-clause-free
join-requires-clause-free c =
    let view : length c.self.inside.nodes ≡ length c.args.self.now.nodes = ap (λ (t : Tree). length t.nodes) c.self.view_is in
    rw (c.len-id.ensures, ← view) (next_is_free is_left c.self.inside.nodes c.self.inside.children c.self.invariant.kept.kin)

pub join-requires-2-clause-free : goal.join-requires-2-clause-free
join-requires-2-clause-free c =
    let view : length c.self.inside.nodes ≡ length c.args.self.now.nodes = ap (λ (t : Tree). length t.nodes) c.self.view_is in
    rw (c.len-id.ensures, ← view) (next_is_free is_waiting c.self.inside.nodes c.self.inside.waiting c.self.invariant.kept.waiting_kin)
