use Rattle.wdf_plan.proofs.resolution.outcome.Goals as goal

pub declared-requires : goal.declared-requires
declared-requires c = rw c.in_ok-lines.ensures c.requires
