-- No level before the place is the frame's, from where the search began.
use Rattle.std.proofs.Common.{◌≡◌, ◌-◌, length, take}
use Rattle.wdf_cpu.specs.Levels.{held_by}
use Rattle.wdf_cpu.proofs.levels.next_of.Given as goal

abbrev pub invariant-loop-f : goal.invariant-loop-f
invariant-loop-f l = held_by (take l.place l.levels.items) l.f.0 ≡ held_by (take l.from l.levels.items) l.f.0

abbrev pub decreases-loop-f : goal.decreases-loop-f
decreases-loop-f l = length l.levels.items - l.place
