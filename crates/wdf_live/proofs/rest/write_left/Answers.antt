-- A line more is written, or was cut short; after the last event all are.
use Rattle.std.proofs.Common.{refl, ◌∙◌, arith}
use Rattle.wdf_live.proofs.Remaining.{all_written, none_written, one_cut, one_written}
use Rattle.wdf_live.proofs.rest.write_left.Goals as goal
use Rattle.wdf_output.proofs.Sinks.{ends_later}

pub loop-k-init : goal.loop-k-init
loop-k-init g c = record {
  writing = none_written c.args.core.now.plan c.args.core.now.journal c.args.lines (g.K.Sink.written c.args.sink.now);
  quiet = refl;
}

pub loop-k-preserved : goal.loop-k-preserved
loop-k-preserved g c =
    let whole = rw c.plan.ensures at c.in-Ok.ensures.whole in
    record {
      writing = one_written c.args.core.now.plan c.args.core.now.journal c.args.lines c.loop-k.k (g.K.Sink.written c.args.sink.now) (g.K.Sink.written c.loop-k.sink) (g.K.Sink.written c.write_event.new.sink)
          c.journal_at-event.result c.journal_at-event.ensures whole c.loop-k.invariant.writing;
      quiet = c.in-Ok.ensures.quiet ∙ c.loop-k.invariant.quiet;
    }

pub returns-in-Err-clause-cut : goal.returns-in-Err-clause-cut
returns-in-Err-clause-cut g c =
    let cut = rw c.plan.ensures at c.in-Err.ensures.cut in
    one_cut c.args.core.now.plan c.args.core.now.journal c.args.lines c.loop-k.k (g.K.Sink.written c.args.sink.now) (g.K.Sink.written c.loop-k.sink) (g.K.Sink.written c.write_event.new.sink)
    (g.K.Sink.faults c.args.sink.now) (g.K.Sink.faults c.loop-k.sink) (g.K.Sink.faults c.write_event.new.sink) c.journal_at-event.result c.journal_at-event.ensures c.loop-k.invariant.quiet
    c.in-Err.ensures.never_falls cut c.loop-k.invariant.writing

pub returns-in-Err-clause-not_again : goal.returns-in-Err-clause-not_again
returns-in-Err-clause-not_again g c =
    ends_later g.K.Sink.refused g.K.Sink.faults c.args.sink.now c.loop-k.sink c.write_event.new.sink c.loop-k.invariant.quiet c.in-Err.ensures.not_again

pub returns-clause-whole : goal.returns-clause-whole
returns-clause-whole g c =
    let high = c.loop-k-test.false in
    let counted = c.journal_len-k-end.ensures.length in
    all_written c.args.core.now.plan c.args.core.now.journal c.args.lines c.loop-k.k (g.K.Sink.written c.args.sink.now) (g.K.Sink.written c.loop-k.sink) (omega arith) c.loop-k.invariant.writing
