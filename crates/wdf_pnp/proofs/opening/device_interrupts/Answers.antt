-- One id more, and all.
use Rattle.std.proofs.Common.{arith}
use Rattle.wdf_pnp.proofs.Interrupts.{interrupts_all, interrupts_more}
use Rattle.wdf_pnp.proofs.opening.device_interrupts.Goals as goal

pub loop-id-preserved : goal.loop-id-preserved
loop-id-preserved c =
    interrupts_more c.args.plan.now c.args.d.0 c.loop-id.id c.loop-id.all.items c.add.new.all.items c.interrupt_steps.result c.loop-id.invariant c.interrupt_steps.ensures c.in_ok-add.ensures

pub returns : goal.returns
returns c = interrupts_all c.args.plan.now c.args.d.0 c.loop-id.id _ c.loop-id.all.items c.loop-id.invariant (omega arith)
