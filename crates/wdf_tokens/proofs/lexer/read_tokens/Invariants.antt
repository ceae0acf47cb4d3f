use Rattle.std.proofs.Common.{length, ◌-◌, ◌≤◌}
use Rattle.wdf_tokens.proofs.LineReading.{ReadUpTo}
use Rattle.wdf_tokens.proofs.lexer.read_tokens.Given as goal

abbrev pub invariant-loop-at : goal.invariant-loop-at
invariant-loop-at l = record { so_far : ReadUpTo l.line l.at l.tokens.items; few : length l.tokens.items ≤ l.at; within : l.at ≤ length l.line }

abbrev pub decreases-loop-at : goal.decreases-loop-at
decreases-loop-at l = length l.line - l.at
