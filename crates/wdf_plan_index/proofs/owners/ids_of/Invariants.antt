-- The ids so far, as many as the names so far.
use Rattle.std.proofs.Common.{◌≡◌, length, take}
use Rattle.std.specs.List.{filter_map}
use Rattle.wdf_plan_index.specs.Owners.{name_of}
use Rattle.wdf_plan_index.proofs.Owning.{so_far}
use Rattle.wdf_plan_index.proofs.owners.ids_of.Given as goal

abbrev pub invariant-loop-k : goal.invariant-loop-k
invariant-loop-k l = (l.ids.items ≡ so_far l.owner l.plan l.k) × (length l.ids.items ≡ length (filter_map (name_of l.owner) (take l.k l.plan.declared)))
