-- They are kept by themselves.
use Rattle.std.proofs.Common.{length, map, sym, ap, ◌∙◌}
use Rattle.std.proofs.lemmas.List.{length-map}
use Rattle.wdf_model.specs.declared.room.TheConstants.{OBJECTS}
use Rattle.wdf_target.specs.Finished.{done_in}
use Rattle.wdf_target.specs.Target.{request_id, target_in}
use Rattle.wdf_target.proofs.Nexts.{all_done}
use Rattle.wdf_target.proofs.target.Target.done_len.Goals as goal

pub returns : goal.returns
returns c =
    c.len.ensures.length
    ∙ sym (length-map c.self.inside.done.entries request_id)
    ∙ ap (λ xs. length (map request_id xs)) c.self.invariant.done
    ∙ ap length (all_done (target_in c.self.inside) OBJECTS c.self.invariant.objects)
    ∙ ap (λ t. length (done_in t)) c.self.view_is
