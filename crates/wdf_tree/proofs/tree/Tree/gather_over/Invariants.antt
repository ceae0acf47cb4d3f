-- The ids so far that are in the subtree are gathered.
use Rattle.std.proofs.Common.{◌≡◌, filter, vec_capacity}
use Rattle.std.specs.List.{range_with_len}
use Rattle.wdf_tree.specs.Gathering.{is_within}
use Rattle.wdf_tree.proofs.tree.Tree.gather_over.Given as goal

abbrev pub invariant-loop-id : goal.invariant-loop-id
invariant-loop-id l = record {
  gathered : l.ids.items ≡ filter (is_within l.self l.o) (range_with_len 0 l.id);
  capacity : vec_capacity l.ids ≡ vec_capacity l.fn.ids;
}
