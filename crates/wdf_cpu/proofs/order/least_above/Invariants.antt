-- What is found so far, with what is left, comes to the least of all.
use Rattle.std.proofs.Common.{◌≡◌, drop, fold}
use Rattle.std.specs.List.{flat_map}
use Rattle.wdf_model.specs.Tables.{least, lesser}
use Rattle.wdf_model.specs.rules.Waits.{above_in}
use Rattle.wdf_cpu.proofs.order.least_above.Given as goal

abbrev pub invariant-loop-stack : goal.invariant-loop-stack
invariant-loop-stack l = fold lesser l.least (flat_map (above_in l.f) (drop l.stack-index l.stacks)) ≡ least (flat_map (above_in l.f) l.stacks)
