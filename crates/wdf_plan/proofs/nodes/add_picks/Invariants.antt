use Rattle.std.proofs.Common.{◌≡◌, ◌++◌, take}
use Rattle.wdf_plan.proofs.nodes.add_picks.Given as goal

abbrev pub invariant-loop-pick : goal.invariant-loop-pick
invariant-loop-pick l = l.picks ≡ l.fn.picks ++ take l.pick-index l.all
