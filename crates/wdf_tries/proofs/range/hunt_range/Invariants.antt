-- What the seeds before this one come to.
use Rattle.std.proofs.Common.{◌≡◌, ◌*◌, ◌^◌, ◌≤◌}
use Rattle.wdf_plan.specs.Plans.{plan_of}
use Rattle.wdf_table.specs.Tables.{all_seeds}
use Rattle.wdf_tries.proofs.Ranges.{IsSoFar}
use Rattle.wdf_tries.proofs.range.hunt_range.Given as goal

abbrev pub invariant-loop-k : goal.invariant-loop-k
invariant-loop-k l = record {
  so_far : IsSoFar l.case l.from l.k l.tally l.events;
  seeds : all_seeds l.tally ≡ l.k;
  plan : l.core.plan ≡ plan_of l.case.scene;
  few : l.events ≤ l.k * 2 ^ 32;
}
