-- None of those before the place was the one.
use Rattle.std.proofs.Common.{◌≡◌, false, length, take}
use Rattle.wdf_model.specs.Tables.{contains}
use Rattle.wdf_cpu.specs.Levels.{held_by}
use Rattle.wdf_cpu.proofs.levels.drop_level.Given as goal

abbrev pub invariant-loop-met : goal.invariant-loop-met
invariant-loop-met l = record {
  same : l.levels ≡ l.fn.levels;
  met : length (held_by (take l.place l.levels.items) l.f.0) ≡ l._met;
  before : contains l.level.0 (held_by (take l.place l.levels.items) l.f.0) ≡ false;
}
