-- One step more.
use Rattle.std.proofs.Common.{◌≡◌, ◌-◌, sym, ap, ◌∙◌, arith}
use Rattle.wdf_model.specs.agents.StackManager.{first_in}
use Rattle.wdf_stack.proofs.Leading.{at_first, no_steps, one_back}
use Rattle.wdf_stack.proofs.stack_manager.first_in.Goals as goal

pub loop-step-init : goal.loop-step-init
loop-step-init c =
    let left : c.args.steps - 0 ≡ c.args.steps = omega arith in
    ap (λ n. first_in c.args.devices.now c.args.ask n c.args.device) left

pub returns-in-None : goal.returns-in-None
returns-in-None c =
    at_first c.args.devices.now c.args.ask (c.args.steps - c.loop-step._step) c.loop-step.first (sym c.leader.ensures ∙ c.in-None.is) ∙ c.loop-step.invariant

pub loop-step-preserved : goal.loop-step-preserved
loop-step-preserved c =
    one_back c.args.devices.now c.args.ask c.args.steps c.loop-step._step c.loop-step.first c.in-Some.before c.loop-step-test.true (sym c.leader.ensures ∙ c.in-Some.is) ∙ c.loop-step.invariant

pub returns : goal.returns
returns c = no_steps c.args.devices.now c.args.ask c.args.steps c.loop-step._step c.loop-step.first c.loop-step-test.false ∙ c.loop-step.invariant
