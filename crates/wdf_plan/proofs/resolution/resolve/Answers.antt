use Rattle.wdf_plan.proofs.Whole.{answer_resolved}
use Rattle.wdf_plan.proofs.resolution.resolve.Goals as goal

pub returns-in-Ok-clause-resolved : goal.returns-in-Ok-clause-resolved
returns-in-Ok-clause-resolved c = λ n.
    answer_resolved c.args.scene.now c.in-Ok.answer _ c.in-Ok.ensures c.requires n
