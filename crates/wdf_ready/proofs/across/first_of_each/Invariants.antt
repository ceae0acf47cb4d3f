-- The objects so far were passed, and none of their events is the actor's.
use Rattle.std.proofs.Common.{◌*◌, ◌≤◌, ◌^◌, drop}
use Rattle.std.specs.List.{flat_map}
use Rattle.wdf_ready.specs.Actors.{is_by}
use Rattle.wdf_offers.specs.Search.{NoneBefore}
use Rattle.wdf_offers.proofs.Passing.{Passed}
use Rattle.wdf_ready.proofs.InBlocks.{for_object}
use Rattle.wdf_ready.proofs.across.first_of_each.Given as goal

abbrev pub invariant-loop-object : goal.invariant-loop-object
invariant-loop-object g l =
    let one = for_object l.plan g.A.Agent.meaning l.parts l.cpu l.rank in
    record {
      passed : Passed (flat_map one l.objects) (flat_map one (drop l.object-index l.objects)) l.before;
      none : NoneBefore (is_by l.actor) (flat_map one l.objects) l.before;
      few : l.before ≤ l.object-index * 2 ^ 32;
    }
