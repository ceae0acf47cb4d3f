-- The text is what was taken so far, and nothing failed.
use Rattle.std.proofs.Common.{◌≡◌, ◌+◌, ◌-◌, ◌≤◌, vec_len}
use Rattle.wdf_io.specs.Outside.{Takes}
use Rattle.wdf_input.proofs.input.read_within.Given as goal

abbrev pub invariant-loop-piece : goal.invariant-loop-piece
invariant-loop-piece g l = record {
  within : vec_len l.text ≤ l.limit + 1;
  taken : Takes (g.S.Source.left l.initial.source) (g.S.Source.left l.source) l.text.items;
  quiet : g.S.Source.faults l.source ≡ g.S.Source.faults l.initial.source;
}

abbrev pub decreases-loop-piece : goal.decreases-loop-piece
decreases-loop-piece g l = l.limit + 1 - vec_len l.text
