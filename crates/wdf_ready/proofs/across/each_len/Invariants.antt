-- The objects so far were passed.
use Rattle.std.proofs.Common.{◌*◌, ◌-◌, ◌≤◌, ◌^◌, drop, length}
use Rattle.std.specs.List.{flat_map}
use Rattle.wdf_offers.proofs.Passing.{Passed}
use Rattle.wdf_ready.proofs.InBlocks.{for_object}
use Rattle.wdf_ready.proofs.across.each_len.Given as goal

abbrev pub invariant-walk : goal.invariant-walk
invariant-walk g l =
    let one = for_object l.plan g.A.Agent.meaning l.parts l.cpu l.rank in
    record {
      passed : Passed (flat_map one l.objects) (flat_map one (drop l.at l.objects)) l.sum;
      few : l.sum ≤ l.at * 2 ^ 32;
      within : l.at ≤ length l.objects;
    }

abbrev pub decreases-walk : goal.decreases-walk
decreases-walk g l = length l.objects - l.at
