-- One event more: its box, where it is a start.
use Rattle.std.proofs.Common.{◌∙◌, ap}
use Rattle.wdf_spans.proofs.Walks.{boxes_more, boxes_same}
use Rattle.wdf_spans.proofs.boxes.boxes_of.Goals as goal
use Rattle.wdf_spans.proofs.boxes.boxes_of.Goals.{in-Some+in_ok-push-in-Some, in-None}

pub loop-k-preserved : goal.loop-k-preserved
loop-k-preserved c = elim c.match-begun_by.branch [
  | in-Some+in_ok-push-in-Some w ↦
      rw (ap (λ boxes. boxes.items) w.boxes-is ∙ w.in_ok-push-in-Some.ensures.items)
      (boxes_more c.args.events.now c.loop-k.k _ c.loop-k.boxes.items w.box_of.result w.in-Some.begun c.loop-k-test.true c.loop-k.invariant w.in-Some.ensures w.box_of.ensures)
  | in-None w ↦
      rw (ap (λ boxes. boxes.items) w.boxes-is)
      (boxes_same c.args.events.now c.loop-k.k _ c.loop-k.boxes.items c.loop-k-test.true c.loop-k.invariant w.in-None.ensures)
]
