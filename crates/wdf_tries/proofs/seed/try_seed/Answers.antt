-- Where nothing is moved, the try by the core's plan is that of the case.
use Rattle.std.proofs.Common.{◌≡◌, IfOk, subst, ◌∙◌}
use Rattle.wdf_base.specs.declared.plan.Plan.{Plan}
use Rattle.wdf_tries.specs.Tries.{IsTryBy}
use Rattle.wdf_tries.proofs.Unmoved.{unmoved_plan}
use Rattle.wdf_tries.proofs.seed.try_seed.Goals as goal

pub returns-then-case-eq0-clause-row : goal.returns-then-case-eq0-clause-row
returns-then-case-eq0-clause-row c =
    let none : c.args.case.now.jitter ≡ 0 = cc in
    let expected = rw c.as_slice-expectations.ensures at c.try_again.ensures.row in
    subst (λ (plan : Plan). IfOk c.try_again.result (IsTryBy plan c.args.case.now.expectations c.args.seed)) (c.requires.plan ∙ unmoved_plan c.args.case.now c.args.seed none) expected
