-- None is left before the place, and the others are as they were.
use Rattle.std.proofs.Common.{◌≡◌, ◌+◌, length, take}
use Rattle.std.specs.VecDeque.{deque_capacity}
use Rattle.wdf_cpu.specs.Levels.{held_by}
use Rattle.wdf_cpu.proofs.HeldLevels.{of_others}
use Rattle.wdf_cpu.proofs.levels.drop_levels.Given as goal

abbrev pub invariant-loop-met : goal.invariant-loop-met
invariant-loop-met l = record {
  gone : length (held_by (take l.place l.levels.items) l.f.0) ≡ 0;
  met : length (held_by l.levels.items l.f.0) + l._met ≡ l.count;
  others : of_others l.f.0 l.levels.items ≡ of_others l.f.0 l.fn.levels.items;
  capacity : deque_capacity l.levels ≡ deque_capacity l.fn.levels;
}
