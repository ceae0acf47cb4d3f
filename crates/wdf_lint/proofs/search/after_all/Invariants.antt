-- What follows the states so far is there.
use Rattle.std.proofs.Common.{◌≡◌, take}
use Rattle.std.specs.List.{flat_map}
use Rattle.wdf_lint.specs.Steps.{steps}
use Rattle.wdf_lint.proofs.search.after_all.Given as goal

abbrev pub invariant-loop-a : goal.invariant-loop-a
invariant-loop-a l = l.after.items ≡ flat_map (steps l.plan l.w.script) (take l.a-index l.states)
