-- The greatest of those before the place, which were met.
use Rattle.std.proofs.Common.{◌≡◌, max, fold, length, take}
use Rattle.wdf_cpu.specs.Levels.{held_by}
use Rattle.wdf_cpu.proofs.levels.peak_of.Given as goal

abbrev pub invariant-loop-met : goal.invariant-loop-met
invariant-loop-met l = record {
  met : length (held_by (take l.place l.levels.items) l.f.0) ≡ l._met;
  peak : l.peak ≡ fold max l.fn.level.0 (held_by (take l.place l.levels.items) l.f.0);
}
