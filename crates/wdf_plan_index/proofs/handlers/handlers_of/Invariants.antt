-- The handlers of the ids so far.
use Rattle.std.proofs.Common.{◌≡◌, map, suc}
use Rattle.std.specs.List.{range_with_len}
use Rattle.wdf_plan_index.specs.Handlers.{handlers_at}
use Rattle.wdf_plan_index.proofs.handlers.handlers_of.Given as goal

abbrev pub invariant-loop-k : goal.invariant-loop-k
invariant-loop-k l = l.all.items ≡ map (handlers_at l.plan) (range_with_len 0 (suc l.k))
