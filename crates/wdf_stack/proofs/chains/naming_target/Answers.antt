-- The first target of the device that names one.
use Rattle.std.proofs.Common.{sym, ap, ◌∙◌, find}
use Rattle.wdf_model.specs.agents.Chains.{is_naming}
use Rattle.wdf_stack.proofs.Finding.{find_first, find_none, none_before_next}
use Rattle.wdf_stack.proofs.chains.naming_target.Goals as goal

pub returns-then-is_naming : goal.returns-then-is_naming
returns-then-is_naming c =
    find_first (is_naming c.args.plan.now c.args.device) c.args.targets.now c.loop-target.target-index _ c.loop-target-test.true c.loop-target.invariant (sym c.is_naming.ensures ∙ c.if-is_naming.true)
    ∙ ap (find (is_naming c.args.plan.now c.args.device)) c.requires.targets

pub loop-target-preserved : goal.loop-target-preserved
loop-target-preserved c =
    none_before_next (is_naming c.args.plan.now c.args.device) c.args.targets.now c.loop-target.target-index _ c.loop-target-test.true c.loop-target.invariant (sym c.is_naming.ensures ∙ c.if-is_naming.false)

pub returns : goal.returns
returns c =
    find_none (is_naming c.args.plan.now c.args.device) c.args.targets.now c.loop-target.target-index c.loop-target-test.false c.loop-target.invariant
    ∙ ap (find (is_naming c.args.plan.now c.args.device)) c.requires.targets
