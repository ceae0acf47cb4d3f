-- What was added, and what is left to add.
use Rattle.std.proofs.Common.{◌≡◌, ◌++◌, drop}
use Rattle.wdf_lint_text.specs.Lines.{finding_lines}
use Rattle.wdf_lint_text.proofs.push_findings.Given as goal

abbrev pub invariant-loop-k : goal.invariant-loop-k
invariant-loop-k l = l.out.items ++ finding_lines (drop l.k l.findings) ≡ l.fn.out.items ++ finding_lines l.findings
