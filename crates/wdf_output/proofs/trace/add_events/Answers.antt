-- A page that was cut short leaves a front of all lines; a line that was added is one line more.
use Rattle.std.proofs.Common.{◌+◌, ◌++◌, ◌∙◌, refl, subst, arith, codes, take}
use Rattle.wdf_lines.specs.Lines.{line_text, lines_from}
use Rattle.wdf_output.specs.Said.{Adds, sinking}
use Rattle.wdf_output.proofs.Writing.{adds_more, adds_nothing, all_lines, cut_longer, later_cut, lines_more, lines_split}
use Rattle.wdf_output.proofs.Sinks.{ends_later}
use Rattle.wdf_output.proofs.trace.add_events.Goals as goal

pub loop-k-init : goal.loop-k-init
loop-k-init g c = record { added = adds_nothing (g.K.Sink.written c.args.sink.now) c.args.page.now; quiet = refl }

pub returns-clause-whole : goal.returns-clause-whole
returns-clause-whole g c =
    let low = c.loop-k.auto.k-end in
    let high = c.loop-k-test.false in
    let counted = c.journal_len-k-end.ensures.length in
    subst (λ ls. Adds (g.K.Sink.written c.args.sink.now) (g.K.Sink.written c.loop-k.sink) c.args.page.now c.loop-k.page ls)
    (all_lines c.args.core.now.plan c.args.core.now.journal 1 c.loop-k.k (omega arith))
    c.loop-k.invariant.added

pub returns-in-Err-clause-cut : goal.returns-in-Err-clause-cut
returns-in-Err-clause-cut g c =
    let split = lines_split c.args.core.now.plan c.args.core.now.journal 1 c.loop-k.k in
    rw split.1
    (later_cut (g.K.Sink.written c.args.sink.now) (g.K.Sink.written c.loop-k.sink) (g.K.Sink.written c.add_event.new.sink)
    (g.K.Sink.faults c.args.sink.now) (g.K.Sink.faults c.loop-k.sink) (g.K.Sink.faults c.add_event.new.sink)
    c.args.page.now c.loop-k.page (lines_from c.args.core.now.plan 1 (take c.loop-k.k c.args.core.now.journal)) split.0
    c.loop-k.invariant.added (omega (arith, c.loop-k.invariant.quiet)) c.in-Err.ensures.never_falls
    (cut_longer
    (sinking (g.K.Sink.written c.loop-k.sink) (g.K.Sink.written c.add_event.new.sink) (g.K.Sink.faults c.loop-k.sink) (g.K.Sink.faults c.add_event.new.sink))
    c.loop-k.page split.0 c.in-Err.ensures.cut))

pub returns-in-Err-clause-not_again : goal.returns-in-Err-clause-not_again
returns-in-Err-clause-not_again g c =
    ends_later g.K.Sink.refused g.K.Sink.faults c.args.sink.now c.loop-k.sink c.add_event.new.sink c.loop-k.invariant.quiet c.in-Err.ensures.not_again

pub loop-k-preserved : goal.loop-k-preserved
loop-k-preserved g c =
    let more = lines_more c.args.core.now.plan c.args.core.now.journal c.journal_at-event.result c.loop-k.k c.journal_at-event.ensures in
    let whole = rw c.plan.ensures at c.in-Ok.ensures.whole in
    record {
      added = rw more
          (adds_more (g.K.Sink.written c.args.sink.now) (g.K.Sink.written c.loop-k.sink) (g.K.Sink.written c.add_event.new.sink)
          c.args.page.now c.loop-k.page c.add_event.new.page
          (lines_from c.args.core.now.plan 1 (take c.loop-k.k c.args.core.now.journal))
          (line_text c.args.core.now.plan (c.loop-k.k + 1) c.journal_at-event.result ++ codes "\n")
          c.loop-k.invariant.added whole);
      quiet = c.in-Ok.ensures.quiet ∙ c.loop-k.invariant.quiet;
    }
