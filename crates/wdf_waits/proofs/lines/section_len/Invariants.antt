-- What is counted, with what is left, comes to the whole length.
use Rattle.std.proofs.Common.{◌≡◌, ◌+◌, ◌≤◌, length}
use Rattle.wdf_waits.specs.Lines.{section_lines}
use Rattle.wdf_waits.proofs.OnLines.{lines_from}
use Rattle.wdf_waits.proofs.lines.section_len.Given as goal

abbrev pub invariant-loop-id : goal.invariant-loop-id
invariant-loop-id g l = record {
  counted : l.count + length (lines_from l.plan g.A.Agent.meaning l.parts l.section l.id-end l.id) ≡ length (section_lines l.plan g.A.Agent.meaning l.parts l.section);
  few : l.count ≤ l.id;
}
