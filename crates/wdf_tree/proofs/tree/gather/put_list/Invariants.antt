-- The items so far were put into the set.
use Rattle.std.proofs.Common.{ℕ, ◌≡◌, ◌&&◌, ◌||◌, nat_le, length, slice_get, take}
use Rattle.wdf_ilist.specs.Family.{is_on, list_at}
use Rattle.wdf_sets.specs.Members.{is_in}
use Rattle.wdf_tree.proofs.tree.gather.put_list.Given as goal

abbrev pub invariant-loop-place : goal.invariant-loop-place
invariant-loop-place l = record {
  at : l.item ≡ slice_get (list_at l.links.lists l.list) l.place;
  size : length l.set ≡ length l.fn.set;
  each : (id : ℕ) → is_in id l.set ≡ (is_in id l.fn.set || (is_on id (take l.place (list_at l.links.lists l.list)) && nat_le l.first id));
}
