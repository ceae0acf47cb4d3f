use Rattle.wdf_plan.proofs.ItemFits.{interrupt_level}
use Rattle.wdf_plan.proofs.objects.object_of.Goals as goal

pub interrupt_info-requires-clause-level : goal.interrupt_info-requires-clause-level
interrupt_info-requires-clause-level c =
    interrupt_level c.args.heritage.now c.args.names.now c.args.placed.now c.args.line c.args.form.now _ _ c.in-Interrupt.is c.requires.fits
