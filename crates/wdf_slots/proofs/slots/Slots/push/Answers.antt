-- The next id is just past the end.
use Rattle.std.proofs.Common.{ap, ◌∙◌}
use Rattle.wdf_model.specs.Tables.{put}
use Rattle.wdf_model.proofs.Maps.{put_next}
use Rattle.wdf_slots.proofs.slots.Slots.push.Goals as goal

pub returns : goal.returns
returns g c = c.put.ensures ∙ ap (λ id. put g.T.ById.blank c.args.self.now id c.args.value) c.len-id.ensures.value ∙ put_next g.T.ById.blank c.args.self.now c.args.value
