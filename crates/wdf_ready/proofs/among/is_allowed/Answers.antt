-- It may come and has a place, or it may not come.
use Rattle.std.proofs.Common.{sym, ◌∙◌}
use Rattle.wdf_model.specs.rules.Steps.{may}
use Rattle.law_machine_places.specs.Placed.{has_place}
use Rattle.law_machine_places.proofs.Exactly.{exactly}
use Rattle.wdf_ready.proofs.Decided.{first_decides, second_decides}
use Rattle.wdf_ready.proofs.among.is_allowed.Goals as goal

pub returns-then-may : goal.returns-then-may
returns-then-may g c =
    rw c.has_place.ensures
    (second_decides (may c.args.plan.now g.A.Agent.meaning c.args.parts.now c.args.event.now) (has_place c.args.plan.now c.args.parts.now c.args.event.now)
    (exactly c.args.plan.now g.A.Agent.meaning c.args.parts.now c.args.event.now c.requires.agree c.requires.owned) (sym c.may.ensures ∙ c.if-may.true))

pub returns-else-may : goal.returns-else-may
returns-else-may g c =
    rw c.may.ensures
    (first_decides (may c.args.plan.now g.A.Agent.meaning c.args.parts.now c.args.event.now) (has_place c.args.plan.now c.args.parts.now c.args.event.now)
    (exactly c.args.plan.now g.A.Agent.meaning c.args.parts.now c.args.event.now c.requires.agree c.requires.owned) (sym c.may.ensures ∙ c.if-may.false))
