-- One event more is counted, or isn't.
use Rattle.std.proofs.Common.{arith, sym, ◌∙◌}
use Rattle.wdf_summary.specs.Counts.{is_arrival}
use Rattle.wdf_summary.proofs.Counting.{counted_yes, counted_no}
use Rattle.wdf_summary.proofs.counts.arrivals.Goals as goal
use Rattle.wdf_summary.proofs.counts.arrivals.Goals.{then-is_arrival, else-is_arrival}

pub loop-k-preserved : goal.loop-k-preserved
loop-k-preserved g c = elim c.if-is_arrival.branch [
  | then-is_arrival w ↦
      let more = counted_yes is_arrival c.args.core.now.journal c.loop-k.k c.loop-k.count c.journal_at.result (omega arith) c.journal_at.ensures (sym c.is_arrival.ensures ∙ w.if-is_arrival.true) c.loop-k.invariant.counted in
      let few = c.loop-k.invariant.few in
      record { counted = omega arith; few = omega arith }
  | else-is_arrival w ↦
      let same = counted_no is_arrival c.args.core.now.journal c.loop-k.k c.loop-k.count c.journal_at.result (omega arith) c.journal_at.ensures (sym c.is_arrival.ensures ∙ w.if-is_arrival.false) c.loop-k.invariant.counted in
      let few = c.loop-k.invariant.few in
      record { counted = omega arith; few = omega arith }
]
