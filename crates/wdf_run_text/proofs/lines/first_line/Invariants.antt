-- No line feed so far.
use Rattle.wdf_run_text.proofs.Cutting.{IsInside}
use Rattle.wdf_run_text.proofs.lines.first_line.Given as goal

abbrev pub invariant-loop-k : goal.invariant-loop-k
invariant-loop-k l = IsInside l.trace l.k
