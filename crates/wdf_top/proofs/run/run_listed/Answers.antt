-- The picks of the run are those of the plan.
use Rattle.std.proofs.Common.{◌≡◌, ◌∙◌}
use Rattle.wdf_top.proofs.run.run_listed.Goals as goal

pub returns-clause-picked : goal.returns-clause-picked
returns-clause-picked g c =
    let picks : c.deref.result.now ≡ c.args.plan.picks = c.deref.ensures.value ∙ c.in_ok-picks.ensures.items ∙ c.picks.ensures in
    rw (c.in_ok-core.ensures.plan, picks, c.in_ok-core.ensures.journal) at c.run_order.ensures.picked
