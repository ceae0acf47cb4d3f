-- One event more is counted, or isn't.
use Rattle.std.proofs.Common.{arith, sym, ◌∙◌}
use Rattle.wdf_summary.specs.Counts.{is_completion}
use Rattle.wdf_summary.proofs.Counting.{counted_yes, counted_no}
use Rattle.wdf_summary.proofs.counts.completions.Goals as goal
use Rattle.wdf_summary.proofs.counts.completions.Goals.{then-is_completion, else-is_completion}

pub loop-k-preserved : goal.loop-k-preserved
loop-k-preserved g c = elim c.if-is_completion.branch [
  | then-is_completion w ↦
      let more = counted_yes is_completion c.args.core.now.journal c.loop-k.k c.loop-k.count c.journal_at.result (omega arith) c.journal_at.ensures (sym c.is_completion.ensures ∙ w.if-is_completion.true) c.loop-k.invariant.counted in
      let few = c.loop-k.invariant.few in
      record { counted = omega arith; few = omega arith }
  | else-is_completion w ↦
      let same = counted_no is_completion c.args.core.now.journal c.loop-k.k c.loop-k.count c.journal_at.result (omega arith) c.journal_at.ensures (sym c.is_completion.ensures ∙ w.if-is_completion.false) c.loop-k.invariant.counted in
      let few = c.loop-k.invariant.few in
      record { counted = omega arith; few = omega arith }
]
