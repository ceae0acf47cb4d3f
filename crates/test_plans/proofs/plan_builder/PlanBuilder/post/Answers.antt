use Rattle.std.proofs.Common.{◌≡◌, suc, ◌-◌, is_ok, arith}
use Rattle.test_plans.proofs.PlanLaws.{post_done}
use Rattle.test_plans.proofs.plan_builder.PlanBuilder.post.Goals as goal

pub returns-else-agent-eq0 : goal.returns-else-agent-eq0
returns-else-agent-eq0 c =
    let is : c.args.agent ≡ suc (c.from.result - 1) = grind (arith, c.if-agent-eq0.false, c.from.ensures) in
    rw (← c.self.view_is) (post_done c.self.inside.plan c.args.agent (c.from.result - 1) c.args.p c.item_mut.result.now (is_ok c.push-else-agent-eq0.result) c.push-else-agent-eq0.new.self is c.item_mut.ensures.value c.push-else-agent-eq0.ensures)
