-- The blocks so far were passed.
use Rattle.std.proofs.Common.{◌-◌, ◌≤◌, drop}
use Rattle.std.specs.List.{flat_map}
use Rattle.wdf_offers.proofs.Passing.{Passed}
use Rattle.wdf_ready.specs.Blocks.{events_in}
use Rattle.wdf_ready.proofs.counts.KeptCounts.at.Given as goal

abbrev pub invariant-loop-at : goal.invariant-loop-at
invariant-loop-at g l =
    let one = events_in l.plan g.A.Agent.meaning l.parts l.all.objects in
    record {
      passed : Passed (flat_map one l.all.blocks) (flat_map one (drop l.at l.all.blocks)) (l.k - l.left);
      few : l.left ≤ l.k;
    }
