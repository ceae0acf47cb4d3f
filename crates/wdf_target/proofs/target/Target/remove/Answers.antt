use Rattle.std.proofs.Common.{filter, sym, ap, ◌∙◌}
use Rattle.wdf_model.specs.declared.room.TheConstants.{OBJECTS}
use Rattle.wdf_maps.specs.Places.{others}
use Rattle.wdf_maps.proofs.Passing.{passing_others}
use Rattle.wdf_maps.proofs.PlacesOfKeys.{rises_others}
use Rattle.wdf_target.specs.Finished.{comes_back}
use Rattle.wdf_target.specs.Target.{request_id}
use Rattle.wdf_target.proofs.target.Target.remove.Goals as goal

pub invariant_of-self : goal.invariant_of-self
invariant_of-self c = record {
  objects = rw c.remove.ensures.entries (rises_others request_id OBJECTS c.args.r.0 c.self.inside.sent.entries c.self.invariant.objects);
  room = c.remove.ensures.room ∙ c.self.invariant.room;
  done = c.remove-2.ensures.entries
      ∙ ap (others request_id c.args.r.0) c.self.invariant.done
      ∙ sym (ap (filter comes_back) c.remove.ensures.entries ∙ passing_others request_id comes_back c.args.r.0 c.self.inside.sent.entries);
  done_room = c.remove-2.ensures.room ∙ c.self.invariant.done_room ∙ sym c.remove.ensures.room;
}
