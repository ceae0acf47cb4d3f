-- Those of the callbacks so far that the device declares.
use Rattle.std.proofs.Common.{◌≡◌, filter, take}
use Rattle.wdf_model.specs.Plans.{declares}
use Rattle.wdf_pnp.proofs.opening.declared_among.Given as goal

abbrev pub invariant-loop-callback : goal.invariant-loop-callback
invariant-loop-callback l = l.all.items ≡ filter (λ c. declares l.plan c l.d.0) (take l.callback-index l.callbacks)
