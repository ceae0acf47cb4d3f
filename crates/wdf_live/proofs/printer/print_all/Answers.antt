-- A line more is written, or was cut short; the end mark has no line.
use Rattle.std.proofs.Common.{false}
use Rattle.crossbeam_queue.specs.Passes.{view}
use Rattle.wdf_live.proofs.Printing.{end_printed, line_cut, line_printed, line_taken, none_printed}
use Rattle.wdf_live.proofs.printer.print_all.Goals as goal
use Rattle.wdf_output.proofs.Sinks.{ends_later}

pub loop-lines-init : goal.loop-lines-init
loop-lines-init g c = record {
  own = c.requires.own;
  printing = none_printed c.args.plan.now (g.K.Sink.written c.args.sink.now) (g.K.Sink.faults c.args.sink.now) (view c.args.pass.now) false c.requires.new;
}

pub loop-lines-preserved : goal.loop-lines-preserved
loop-lines-preserved g c = record {
  own = c.in-Numbered.ensures.own;
  printing = line_printed c.args.plan.now (g.K.Sink.written c.args.sink.now) (g.K.Sink.written c.loop-lines.sink) (g.K.Sink.written c.write_event.new.sink)
      (g.K.Sink.faults c.args.sink.now) (g.K.Sink.faults c.loop-lines.sink) (g.K.Sink.faults c.write_event.new.sink) c.loop-lines.lines c.in-Numbered.number c.in-Numbered.event
      (view c.loop-lines.pass) (view c.take.new.pass) c.loop-lines.invariant.printing c.in-Numbered.ensures.taken c.in-Ok.ensures.whole c.in-Ok.ensures.quiet;
}

pub returns-in-Err : goal.returns-in-Err
returns-in-Err g c =
    let taken = line_taken c.args.plan.now (g.K.Sink.written c.args.sink.now) (g.K.Sink.written c.loop-lines.sink) (g.K.Sink.faults c.args.sink.now) (g.K.Sink.faults c.loop-lines.sink)
    c.loop-lines.lines c.in-Numbered.number c.in-Numbered.event (view c.loop-lines.pass) (view c.take.new.pass) c.loop-lines.invariant.printing c.in-Numbered.ensures.taken in record {
      own = c.in-Numbered.ensures.own;
      takes = taken.0;
      lines = taken.1;
      told = line_cut c.args.plan.now (g.K.Sink.written c.args.sink.now) (g.K.Sink.written c.loop-lines.sink) (g.K.Sink.written c.write_event.new.sink)
          (g.K.Sink.faults c.args.sink.now) (g.K.Sink.faults c.loop-lines.sink) (g.K.Sink.faults c.write_event.new.sink) c.loop-lines.lines c.in-Numbered.number c.in-Numbered.event
          (view c.loop-lines.pass) (view c.take.new.pass) c.loop-lines.invariant.printing c.in-Numbered.ensures.taken c.in-Err.ensures.never_falls c.in-Err.ensures.cut;
      not_again = λ failed. ends_later g.K.Sink.refused g.K.Sink.faults c.args.sink.now c.loop-lines.sink c.write_event.new.sink c.loop-lines.invariant.printing.quiet c.in-Err.ensures.not_again;
    }

pub returns-in-End : goal.returns-in-End
returns-in-End g c =
    let all = end_printed c.args.plan.now (g.K.Sink.written c.args.sink.now) (g.K.Sink.written c.loop-lines.sink) (g.K.Sink.faults c.args.sink.now) (g.K.Sink.faults c.loop-lines.sink)
    c.loop-lines.lines (view c.loop-lines.pass) (view c.take.new.pass) c.loop-lines.invariant.printing c.in-End.ensures.taken in record {
      own = c.in-End.ensures.own;
      takes = all.takes;
      lines = all.lines;
      told = (all.gained, all.quiet);
      not_again = λ never. absurd (let z : ⊥ = cc in z);
    }
