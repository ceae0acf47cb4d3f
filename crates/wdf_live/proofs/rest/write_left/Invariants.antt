-- What was written is the lines up to this event, and no write failed.
use Rattle.std.proofs.Common.{◌≡◌}
use Rattle.wdf_live.proofs.Remaining.{IsWriting}
use Rattle.wdf_live.proofs.rest.write_left.Given as goal

abbrev pub invariant-loop-k : goal.invariant-loop-k
invariant-loop-k g l = record {
  writing : IsWriting l.core.plan l.core.journal l.lines l.k (g.K.Sink.written l.initial.sink) (g.K.Sink.written l.sink);
  quiet : g.K.Sink.faults l.sink ≡ g.K.Sink.faults l.initial.sink;
}
