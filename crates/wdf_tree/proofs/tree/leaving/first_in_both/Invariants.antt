use Rattle.std.proofs.Common.{◌-◌}
use Rattle.wdf_tree.proofs.Counting.{Passed, in_both}
use Rattle.wdf_tree.proofs.tree.leaving.first_in_both.Given as goal

abbrev pub invariant-search : goal.invariant-search
invariant-search l = Passed (in_both l.one l.other) l.from l.at

abbrev pub decreases-search : goal.decreases-search
decreases-search l = l.end - l.at
