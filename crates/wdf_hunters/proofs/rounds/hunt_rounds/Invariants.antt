-- What the seeds so far come to.
use Rattle.std.proofs.Common.{◌≡◌, ◌*◌, ◌^◌, ◌≤◌}
use Rattle.wdf_table.specs.Tables.{all_seeds}
use Rattle.wdf_tries.specs.Tries.{IsHuntOf}
use Rattle.wdf_hunters.proofs.rounds.hunt_rounds.Given as goal

abbrev pub invariant-loop-round : goal.invariant-loop-round
invariant-loop-round g l = record {
  hunt : IsHuntOf l.case l.from l.done l.hunted;
  seeds : all_seeds l.hunted.tally ≡ l.done;
  few : l.hunted.events ≤ l.done * 2 ^ 32;
  goes : l._round ≤ l.done;
  within : l.done ≤ l.count;
}
