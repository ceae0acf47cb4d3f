use Rattle.std.proofs.Common.{◌<◌, false, length, sym, ap, subst, ◌∙◌}
use Rattle.wdf_model.specs.parts.Targets.{Target, Targets}
use Rattle.wdf_target.proofs.Acts.{read_as, target_written}
use Rattle.wdf_target.proofs.targets.Targets.start.Goals as goal

pub returns-clause-done : goal.returns-clause-done
returns-clause-done c =
    let P : Targets → Type 0 = λ T. c.args.t.0 < length T.targets in
    let within : c.args.t.0 < length c.self.inside.targets.items = subst P (sym c.self.view_is) c.requires in
    let read = read_as c.self.inside.targets.items c.args.t.0 c.index_mut-target.result.now within c.index_mut-target.ensures.value in
    let f : Target → Target = λ x. record x { stopped = false } in
    target_written c.args.self.now c.self.inside.targets.items c.args.t.0 f c.set_stopped.new.self c.self.view_is within (c.set_stopped.ensures ∙ ap f (sym read))
