-- The objects of the subtree were asked.
use Rattle.std.proofs.Common.{ap, ◌∙◌}
use Rattle.wdf_model.specs.State.{State}
use Rattle.wdf_model.specs.rules.Deeds.{ask_objects}
use Rattle.wdf_parts.specs.Asking.{askable}
use Rattle.wdf_parts.specs.Inside.{state_in}
use Rattle.wdf_parts.proofs.Walks.{subtree_asked}
use Rattle.wdf_parts.proofs.parts.Parts.ask_objects.Goals as goal

pub returns : goal.returns
returns g c =
    subtree_asked (state_in c.self.inside) (askable c.ask_each.new.tree c.ask_each.new.dpcs c.ask_each.new.work_items c.ask_each.new.timers) c.args.o.0 c.ids.result.now
    (c.ids.ensures ∙ c.gather.ensures.ids) c.ask_each.ensures
    ∙ ap (λ (S : State _). ask_objects S c.args.o.0) c.self.view_is
