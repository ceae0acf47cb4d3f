-- The front is less than all that are ahead with it.
use Rattle.std.proofs.Common.{◌≡◌, Some, sym}
use Rattle.wdf_model.specs.Tables.{first_of_list}
use Rattle.wdf_model.specs.declared.room.TheConstants.{OBJECTS}
use Rattle.wdf_model.specs.parts.Queues.{waiting_in}
use Rattle.wdf_causes.proofs.Rising.{first_ahead}
use Rattle.wdf_causes.proofs.queues.front_ahead_in.Goals as goal

pub returns : goal.returns
returns c =
    let first : first_of_list (waiting_in c.args.queues.now c.args.q.0) ≡ Some c.in_ok-front.front.0 = sym (rw c.in_ok-front.was at c.front.ensures) in
    first_ahead OBJECTS c.args.r.0 c.in_ok-front.front.0 (waiting_in c.args.queues.now c.args.q.0) c.requires first c.if-front-r.false
