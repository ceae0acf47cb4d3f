-- One event more: the span of its request, where it brings one into being.
use Rattle.std.proofs.Common.{◌∙◌, ap}
use Rattle.wdf_spans.proofs.Walks.{spans_more, spans_same}
use Rattle.wdf_spans.proofs.requests.spans_of.Goals as goal
use Rattle.wdf_spans.proofs.requests.spans_of.Goals.{in-Some+in_ok-push-in-Some, in-None}

pub loop-k-preserved : goal.loop-k-preserved
loop-k-preserved c = elim c.match-birth_by.branch [
  | in-Some+in_ok-push-in-Some w ↦
      rw (ap (λ spans. spans.items) w.spans-is ∙ w.in_ok-push-in-Some.ensures.items)
      (spans_more c.args.events.now c.loop-k.k _ c.loop-k.spans.items w.span_of.result w.in-Some.birth c.loop-k-test.true c.loop-k.invariant w.in-Some.ensures w.span_of.ensures)
  | in-None w ↦
      rw (ap (λ spans. spans.items) w.spans-is)
      (spans_same c.args.events.now c.loop-k.k _ c.loop-k.spans.items c.loop-k-test.true c.loop-k.invariant w.in-None.ensures)
]
