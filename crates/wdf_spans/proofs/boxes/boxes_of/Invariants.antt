use Rattle.std.proofs.Common.{◌≡◌, map, take}
use Rattle.wdf_spans.specs.Starts.{starts_from}
use Rattle.wdf_spans.proofs.boxes.boxes_of.Given as goal

abbrev pub invariant-loop-k : goal.invariant-loop-k
invariant-loop-k l = map (λ b. b.begun) l.boxes.items ≡ starts_from 1 (take l.k l.events)
