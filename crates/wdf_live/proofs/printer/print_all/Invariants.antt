-- What was written is the lines of what was taken, and no write failed.
use Rattle.crossbeam_queue.specs.Passes.{view, IsPassOf}
use Rattle.wdf_live.proofs.Printing.{IsPrinting}
use Rattle.wdf_live.proofs.printer.print_all.Given as goal

abbrev pub invariant-loop-lines : goal.invariant-loop-lines
invariant-loop-lines g l = record {
  own : IsPassOf l.desk.pipe.now l.pass;
  printing : IsPrinting l.plan (g.K.Sink.written l.initial.sink) (g.K.Sink.written l.sink) (g.K.Sink.faults l.initial.sink) (g.K.Sink.faults l.sink) l.lines (view l.pass);
}
