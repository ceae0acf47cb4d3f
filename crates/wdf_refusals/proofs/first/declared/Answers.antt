use Rattle.wdf_refusals.proofs.Fitting.{declaring_begins}
use Rattle.wdf_refusals.proofs.first.declared.Goals as goal

pub loop-placed-init : goal.loop-placed-init
loop-placed-init c =
    declaring_begins _ _ _ c.requires (rw (c.as_slice-lines.ensures.value, c.scene.ensures) at c.as_slice-lines.ensures.fits) c.new-names.ensures c.walk-walk.ensures
