use Rattle.std.proofs.Common.{length, ◌-◌}
use Rattle.wdf_parse.proofs.LinesTaken.{TakenUpTo}
use Rattle.wdf_parse.proofs.parsing.take_lines.Given as goal

abbrev pub invariant-loop-at : goal.invariant-loop-at
invariant-loop-at l = TakenUpTo l.fn.reader l.text l.at l.number l.reader

abbrev pub decreases-loop-at : goal.decreases-loop-at
decreases-loop-at l = length l.text - l.at
