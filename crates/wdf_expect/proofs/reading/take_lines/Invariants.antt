-- What was found so far.
use Rattle.std.proofs.Common.{length, ◌-◌}
use Rattle.wdf_expect.proofs.Found.{IsFoundTo}
use Rattle.wdf_expect.proofs.reading.take_lines.Given as goal

abbrev pub invariant-loop-at : goal.invariant-loop-at
invariant-loop-at l = IsFoundTo l.text l.at l.number l.found.items

abbrev pub decreases-loop-at : goal.decreases-loop-at
decreases-loop-at l = length l.text - l.at
