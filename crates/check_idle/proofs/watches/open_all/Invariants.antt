-- The devices so far are those of the first registers.
use Rattle.std.proofs.Common.{◌≡◌, take}
use Rattle.std.specs.List.{filter_map}
use Rattle.check_idle.specs.Timed.{opened_by}
use Rattle.check_idle.proofs.watches.open_all.Given as goal

abbrev pub invariant-loop-k : goal.invariant-loop-k
invariant-loop-k l = l.all.items ≡ filter_map (opened_by l.plan) (take l.k l.plan.registers)
