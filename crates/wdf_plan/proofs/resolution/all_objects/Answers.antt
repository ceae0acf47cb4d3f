use Rattle.std.proofs.Common.{arith, refl}
use Rattle.wdf_plan.specs.Plans.{all_objects}
use Rattle.wdf_plan.proofs.SceneFits.{objects_fit, objects_room}
use Rattle.wdf_plan.proofs.resolution.all_objects.Goals as goal

pub gather_after-requires : goal.gather_after-requires
gather_after-requires c =
    let room = objects_room c.args.heritage.now c.args.names.now c.requires in
    rw (c.lines.ensures, c.in_ok-push.ensures, c.new-objects.ensures) (omega arith, (objects_fit c.args.heritage.now c.args.names.now c.requires, (room, room)))

pub returns : goal.returns
unfolding all_objects
returns c =
    rw (c.in_ok-gather_after.ensures, c.in_ok-push.ensures, c.new-objects.ensures, c.lines.ensures) refl
