-- The targets before the id have begun anew, and the others are as they were.
use Rattle.wdf_declared.proofs.Ids.{IsAnew}
use Rattle.wdf_model.specs.Plans.{target_of}
use Rattle.wdf_model.specs.parts.Targets.{opening_target}
use Rattle.wdf_target.proofs.targets.begin_all.Given as goal

abbrev pub invariant-loop-id : goal.invariant-loop-id
invariant-loop-id l = IsAnew (λ t. opening_target (target_of l.plan t)) l.initial.all.items l.all.items l.id
