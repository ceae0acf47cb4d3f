-- What was added, and what is left to add.
use Rattle.std.proofs.Common.{◌≡◌, ◌++◌, false, drop}
use Rattle.wdf_shrink.specs.Texts.{outside_texts}
use Rattle.wdf_shrink.proofs.text.push_lines.Given as goal

abbrev pub invariant-loop-line : goal.invariant-loop-line
invariant-loop-line l = l.out.items ++ outside_texts l.scene.exprs l.inside (drop l.line-index l.scene.lines) ≡ l.fn.out.items ++ outside_texts l.scene.exprs false l.scene.lines
