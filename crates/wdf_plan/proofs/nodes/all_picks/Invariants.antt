use Rattle.std.proofs.Common.{◌≡◌, take}
use Rattle.std.specs.List.{flat_map}
use Rattle.wdf_plan.specs.Parts.{line_picks}
use Rattle.wdf_plan.proofs.nodes.all_picks.Given as goal

abbrev pub invariant-loop-line : goal.invariant-loop-line
invariant-loop-line l = l.picks ≡ flat_map line_picks (take l.line-index l.lines)
