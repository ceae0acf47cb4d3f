-- One event more: a piece ends there, or what holds goes on.
use Rattle.std.proofs.Common.{◌∙◌, ap}
use Rattle.wdf_spans.proofs.Pieces.{pieces_more, pieces_same}
use Rattle.wdf_spans.proofs.bands.pieces_of.Goals as goal
use Rattle.wdf_spans.proofs.bands.pieces_of.Goals.{in-Some+in_ok-push-in-Some, in-None}

pub loop-k-preserved : goal.loop-k-preserved
loop-k-preserved c = elim c.match-next.branch [
  | in-Some+in_ok-push-in-Some w ↦
      rw (ap (λ pieces. pieces.items) w.pieces-is ∙ w.in_ok-push-in-Some.ensures.items)
      (pieces_more c.args.of.now c.loop-k.pieces.items _ w.piece.result c.loop-k.standing w.in-Some.other c.match-next.standing c.loop-k.since c.match-next.since c.loop-k.k
      c.args.events.now _ c.loop-k-test.true c.loop-k.invariant w.in-Some.ensures w.piece.ensures w.standing-is w.since-is)
  | in-None w ↦
      rw (ap (λ pieces. pieces.items) w.pieces-is)
      (pieces_same c.args.of.now c.loop-k.pieces.items _ c.loop-k.standing c.match-next.standing c.loop-k.since c.match-next.since c.loop-k.k
      c.args.events.now _ c.loop-k-test.true c.loop-k.invariant w.in-None.ensures w.standing-is w.since-is)
]
