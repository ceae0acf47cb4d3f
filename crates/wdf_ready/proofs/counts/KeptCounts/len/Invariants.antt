-- The blocks so far were passed.
use Rattle.std.proofs.Common.{◌+◌, ◌*◌, ◌≤◌, ◌^◌, drop, length}
use Rattle.std.specs.List.{flat_map}
use Rattle.wdf_ready.specs.Blocks.{all_of, events_in, joined}
use Rattle.wdf_offers.proofs.Passing.{Passed}
use Rattle.wdf_ready.proofs.counts.KeptCounts.len.Given as goal

abbrev pub invariant-loop-at : goal.invariant-loop-at
invariant-loop-at g l =
    let one = events_in l.plan g.A.Agent.meaning l.parts l.all.objects in
    record {
      passed : Passed (flat_map one l.all.blocks) (flat_map one (drop l.at l.all.blocks)) l.sum;
      few : l.sum + length (joined l.all.objects (drop l.at l.all.blocks)) * 2 ^ 32 ≤ length (all_of l.all) * 2 ^ 32;
    }
