-- It has nothing, and the same depth.
use Rattle.std.proofs.Common.{◌≡◌, [], filter, Option, Some, None, refl, sym, ap, ◌∙◌}
use Rattle.wdf_base.specs.declared.declared.TargetInfo.{TargetInfo}
use Rattle.wdf_model.specs.parts.Targets.{Target, opening_target}
use Rattle.wdf_target.specs.Finished.{comes_back}
use Rattle.wdf_target.proofs.target.Target.begin_again.Goals as goal

pub invariant_of-self : goal.invariant_of-self
invariant_of-self c = record {
  objects = rw c.clear.ensures.entries refl;
  room = c.clear.ensures.room ∙ c.self.invariant.room;
  done = c.clear-2.ensures.entries ∙ sym (ap (filter comes_back) c.clear.ensures.entries);
  done_room = c.clear-2.ensures.room ∙ c.self.invariant.done_room ∙ sym c.clear.ensures.room;
}

opened : (info : Option TargetInfo) → ◌≡◌ {A = Target} (record { depth = (opening_target info).depth; stopped = (opening_target info).stopped; sent = [] }) (opening_target info)
opened None = refl
opened (Some i) = refl

pub returns : goal.returns
returns c = rw (ap (λ (t : Target). t.depth) c.self.view_is ∙ c.requires, c.opening_stopped-self-inside.ensures, c.clear.ensures.entries) (opened c.args.info)
