use Rattle.std.proofs.Common.{◌≡◌, slice_get}
use Rattle.wdf_ilist.specs.Family.{list_at}
use Rattle.wdf_defer.proofs.dpcs.item_at.Given as goal

abbrev pub invariant-loop-place : goal.invariant-loop-place
invariant-loop-place l = l.item ≡ slice_get (list_at l.links.lists l.list) l._place
