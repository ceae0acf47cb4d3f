use Rattle.std.proofs.Common.{◌≡◌, map, take}
use Rattle.wdf_spans.specs.Births.{births_from}
use Rattle.wdf_spans.proofs.requests.spans_of.Given as goal

abbrev pub invariant-loop-k : goal.invariant-loop-k
invariant-loop-k l = map (λ s. s.birth) l.spans.items ≡ births_from 1 (take l.k l.events)
