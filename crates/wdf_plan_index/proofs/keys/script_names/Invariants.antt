-- The names of the scripts so far.
use Rattle.std.proofs.Common.{◌≡◌, map, take}
use Rattle.wdf_plan_index.specs.Keys.{script_name}
use Rattle.wdf_plan_index.proofs.keys.script_names.Given as goal

abbrev pub invariant-loop-k : goal.invariant-loop-k
invariant-loop-k l = l.names.items ≡ map (script_name l.plan) (take l.k l.plan.scripts)
