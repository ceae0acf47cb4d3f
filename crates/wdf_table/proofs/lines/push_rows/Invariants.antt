-- What was added, and what is left to add.
use Rattle.std.proofs.Common.{◌≡◌, ◌++◌, drop}
use Rattle.wdf_table.specs.Lines.{row_lines}
use Rattle.wdf_table.proofs.lines.push_rows.Given as goal

abbrev pub invariant-loop-row : goal.invariant-loop-row
invariant-loop-row l = l.out ++ row_lines (drop l.row-index l.rows) ≡ l.fn.out ++ row_lines l.rows
