-- The objects so far were asked.
use Rattle.std.proofs.Common.{◌≡◌, fold, length, take}
use Rattle.wdf_parts.specs.Asking.{askable, asked}
use Rattle.wdf_parts.proofs.objects.ask_each.Given as goal

abbrev pub invariant-loop-id : goal.invariant-loop-id
invariant-loop-id l = record {
  done : askable l.tree l.dpcs l.work_items l.timers ≡ fold asked (askable l.fn.tree l.fn.dpcs l.fn.work_items l.fn.timers) (take l.id-index l.ids);
  size : length l.tree.nodes ≡ length l.fn.tree.nodes;
}
