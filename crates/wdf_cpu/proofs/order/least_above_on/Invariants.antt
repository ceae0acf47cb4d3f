-- What is found so far, with what is left, comes to the least that is above.
use Rattle.std.proofs.Common.{◌≡◌, drop}
use Rattle.wdf_model.specs.Tables.{least}
use Rattle.wdf_model.specs.rules.Waits.{above_in}
use Rattle.wdf_cpu.proofs.Leasts.{above_from}
use Rattle.wdf_cpu.proofs.order.least_above_on.Given as goal

abbrev pub invariant-loop-place : goal.invariant-loop-place
invariant-loop-place l = above_from l.f l.least (drop l.place l.stack) ≡ least (above_in l.f l.stack)
