-- The queues of the devices so far.
use Rattle.std.proofs.Common.{◌≡◌, map, take}
use Rattle.wdf_plan_index.specs.Serving.{serving_at}
use Rattle.wdf_plan_index.proofs.serving.serving_of.Given as goal

abbrev pub invariant-loop-k : goal.invariant-loop-k
invariant-loop-k l = l.all.items ≡ map (serving_at l.plan) (take l.k l.devices)
