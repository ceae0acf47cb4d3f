-- Nothing runs, and nothing is counted.
use Rattle.std.proofs.Common.{arith}
use Rattle.wdf_cpu.proofs.Keeping.{kept_opening}
use Rattle.wdf_cpu.proofs.Parking.{parking_opening}
use Rattle.wdf_cpu.proofs.Ticks.{spending_opening}
use Rattle.wdf_cpu.proofs.cpus.Cpus.begun.Goals as goal

pub invariant_of-result : goal.invariant_of-result
invariant_of-result c =
    let none = c.requires.frames in
    let lists = c.requires.lists in
    let tallies = c.requires.tallies in
    record {
      live_room = lists.live_room;
      peaks_room = lists.peaks_room;
      parked_room = rw lists.parked_room (omega arith);
      kept = rw (none, lists.stacks, lists.parked, lists.levels, lists.live, lists.peaks, tallies.on, tallies.waits) (kept_opening c.args.plan.now);
      parked_for = rw (none, lists.stacks, lists.parked, lists.levels, tallies.parked_for) (parking_opening c.args.plan.now);
      untils = rw (none, lists.stacks, lists.parked, lists.levels, lists.untils) (spending_opening c.args.plan.now);
    }
