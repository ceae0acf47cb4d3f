-- The table has it, or the id is past what is declared.
use Rattle.std.proofs.Common.{ap, ◌∙◌}
use Rattle.wdf_base.specs.declared.plan.Plan.{Plan}
use Rattle.wdf_model.specs.Plans.{handler_for}
use Rattle.wdf_plan_index.proofs.Handling.{handler_kept, handler_none}
use Rattle.wdf_plan_index.proofs.indexed.IndexedPlan.handler_for.Goals as goal

pub returns-in-Some : goal.returns-in-Some
returns-in-Some c =
    let found = rw c.deref.ensures.value at c.in-Some.ensures.lookup in
    c.of.ensures
    ∙ handler_kept c.self.inside.plan c.self.inside.tables.handlers.items c.args.q.0 c.args.form c.in-Some.handlers.now c.self.invariant.handlers found.3.0 found.1
    ∙ ap (λ (P : Plan). handler_for P c.args.q.0 c.args.form) c.self.view_is

pub returns-in-None : goal.returns-in-None
returns-in-None c =
    let found = rw c.deref.ensures.value at c.in-None.ensures.lookup in
    handler_none c.self.inside.plan c.self.inside.tables.handlers.items c.args.q.0 c.args.form c.self.invariant.handlers found.3
    ∙ ap (λ (P : Plan). handler_for P c.args.q.0 c.args.form) c.self.view_is
