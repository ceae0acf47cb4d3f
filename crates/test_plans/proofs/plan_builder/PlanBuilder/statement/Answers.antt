use Rattle.std.proofs.Common.{is_ok}
use Rattle.test_plans.proofs.PlanLaws.{statement_done}
use Rattle.test_plans.proofs.plan_builder.PlanBuilder.statement.Goals as goal

pub returns : goal.returns
returns c =
    rw (← c.self.view_is) (statement_done c.self.inside.plan c.args.script c.args.s c.item_mut.result.now (is_ok c.push.result) c.push.new.self c.item_mut.ensures.value c.push.ensures)
