use Rattle.std.proofs.Common.{◌≡◌, ◌++◌, map, take}
use Rattle.wdf_plan.specs.Plans.{name_in}
use Rattle.wdf_plan.proofs.resolution.add_names.Given as goal

abbrev pub invariant-loop-declaration : goal.invariant-loop-declaration
invariant-loop-declaration l = l.names ≡ l.fn.names ++ map name_in (take l.declaration-index l.all)
