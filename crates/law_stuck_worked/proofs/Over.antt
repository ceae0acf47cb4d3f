-- A stuck run is over.
use Rattle.std.proofs.Common.{◌≢◌}
use Rattle.wdf_base.specs.declared.event.Ending.TheVariants as ending

pub stuck_is_over : ending.Stuck ≢ ending.Running
stuck_is_over h = let z : ⊥ = cc in z
