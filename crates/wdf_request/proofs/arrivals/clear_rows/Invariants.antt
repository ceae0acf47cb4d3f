-- The rows before the index are empty, and the others are as they were.
use Rattle.std.proofs.Common.{◌≡◌, ◌++◌, map, take, drop}
use Rattle.wdf_request.specs.Arrivals.{emptied}
use Rattle.wdf_request.proofs.arrivals.clear_rows.Given as goal

abbrev pub invariant-loop-row : goal.invariant-loop-row
invariant-loop-row l = l.rows ≡ map emptied (take l.row-index l.initial.rows) ++ drop l.row-index l.initial.rows
