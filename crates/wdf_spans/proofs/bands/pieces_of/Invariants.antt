use Rattle.std.proofs.Common.{◌≡◌, ◌++◌, drop}
use Rattle.wdf_spans.specs.Bands.{pieces_from, pieces_of}
use Rattle.wdf_spans.proofs.bands.pieces_of.Given as goal

-- what was written, and what the rest of the run gives, is the whole
abbrev pub invariant-loop-k : goal.invariant-loop-k
invariant-loop-k l = l.pieces.items ++ pieces_from l.of l.standing l.since l.k (drop l.k l.events) ≡ pieces_of l.of l.events
