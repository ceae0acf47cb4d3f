-- There are some exactly where some come back.
use Rattle.std.proofs.Common.{nat_lt, length, ap, ◌∙◌}
use Rattle.wdf_model.specs.declared.room.TheConstants.{OBJECTS}
use Rattle.wdf_target.specs.Finished.{has_done}
use Rattle.wdf_target.specs.Target.{target_in}
use Rattle.wdf_target.proofs.Nexts.{some_done}
use Rattle.wdf_target.proofs.target.Target.has_done.Goals as goal

pub returns : goal.returns
returns c =
    ap (nat_lt 0) (c.len.ensures.length ∙ ap length c.self.invariant.done)
    ∙ some_done (target_in c.self.inside) OBJECTS c.self.invariant.objects
    ∙ ap has_done c.self.view_is
