-- What was added, and what is left to add.
use Rattle.std.proofs.Common.{◌≡◌, ◌++◌, drop}
use Rattle.wdf_lint_text.specs.Lines.{path_text}
use Rattle.wdf_lint_text.proofs.push_path.Given as goal

abbrev pub invariant-loop-line : goal.invariant-loop-line
invariant-loop-line l = l.out.items ++ path_text (drop l.line-index l.path) ≡ l.fn.out.items ++ path_text l.path
