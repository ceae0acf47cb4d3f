-- No event of the blocks so far is the side's.
use Rattle.std.proofs.Common.{◌≡◌, drop, find}
use Rattle.std.specs.List.{flat_map}
use Rattle.wdf_ready.specs.Blocks.{events_in}
use Rattle.wdf_ready.specs.Sides.{is_of}
use Rattle.wdf_ready.proofs.sides.first_of.Given as goal

abbrev pub invariant-loop-at : goal.invariant-loop-at
invariant-loop-at g l =
    let one = events_in l.plan g.A.Agent.meaning l.parts l.all.objects in
    find (is_of l.side) (flat_map one l.all.blocks) ≡ find (is_of l.side) (flat_map one (drop l.at l.all.blocks))
