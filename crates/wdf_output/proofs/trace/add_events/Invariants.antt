-- The lines of the events before this one were added, and no write failed.
use Rattle.std.proofs.Common.{◌≡◌, take}
use Rattle.wdf_lines.specs.Lines.{lines_from}
use Rattle.wdf_output.specs.Said.{Adds}
use Rattle.wdf_output.proofs.trace.add_events.Given as goal

abbrev pub invariant-loop-k : goal.invariant-loop-k
invariant-loop-k g l = record {
  added : Adds (g.K.Sink.written l.initial.sink) (g.K.Sink.written l.sink) l.initial.page l.page (lines_from l.core.plan 1 (take l.k l.core.journal));
  quiet : g.K.Sink.faults l.sink ≡ g.K.Sink.faults l.initial.sink;
}
