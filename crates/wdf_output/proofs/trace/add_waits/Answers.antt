-- A page that was cut short leaves a front of all lines; a line that was added is one line more.
use Rattle.std.proofs.Common.{◌++◌, ◌∙◌, arith, codes, sym, take}
use Rattle.wdf_model.specs.rules.Waits.{wait_list}
use Rattle.wdf_lines.specs.Endings.{wait_text, wait_lines}
use Rattle.wdf_core.proofs.Walking.{item_at, rest_left, some_left}
use Rattle.wdf_output.specs.Said.{sinking}
use Rattle.wdf_output.proofs.Writing.{adds_more, cut_longer, later_cut, waits_more, waits_split}
use Rattle.wdf_output.proofs.Sinks.{ends_later}
use Rattle.wdf_output.proofs.trace.add_waits.Goals as goal

pub next_wait-requires : goal.next_wait-requires
next_wait-requires g c =
    some_left (wait_list c.args.core.now.plan g.A.Agent.meaning c.args.core.now.journal) _ c.loop-k._k c.loop-k.invariant.left (omega (arith, c.wait_len-k-end.ensures))

pub returns-in-Err-clause-cut : goal.returns-in-Err-clause-cut
returns-in-Err-clause-cut g c =
    let waits = wait_list c.args.core.now.plan g.A.Agent.meaning c.args.core.now.journal in
    let split = waits_split c.args.core.now.plan waits c.loop-k._k in
    rw split.1
    (later_cut (g.K.Sink.written c.args.sink.now) (g.K.Sink.written c.loop-k.sink) (g.K.Sink.written c.add_wait.new.sink)
    (g.K.Sink.faults c.args.sink.now) (g.K.Sink.faults c.loop-k.sink) (g.K.Sink.faults c.add_wait.new.sink)
    c.args.page.now c.loop-k.page (wait_lines c.args.core.now.plan (take c.loop-k._k waits)) split.0
    c.loop-k.invariant.added (omega (arith, c.loop-k.invariant.quiet)) c.in-Err.ensures.never_falls
    (cut_longer
    (sinking (g.K.Sink.written c.loop-k.sink) (g.K.Sink.written c.add_wait.new.sink) (g.K.Sink.faults c.loop-k.sink) (g.K.Sink.faults c.add_wait.new.sink))
    c.loop-k.page split.0 c.in-Err.ensures.cut))

pub returns-in-Err-clause-not_again : goal.returns-in-Err-clause-not_again
returns-in-Err-clause-not_again g c =
    ends_later g.K.Sink.refused g.K.Sink.faults c.args.sink.now c.loop-k.sink c.add_wait.new.sink c.loop-k.invariant.quiet c.in-Err.ensures.not_again

pub loop-k-preserved : goal.loop-k-preserved
loop-k-preserved g c =
    let waits = wait_list c.args.core.now.plan g.A.Agent.meaning c.args.core.now.journal in
    let opens = sym c.loop-k.invariant.left ∙ c.next_wait.ensures in
    let here = item_at waits _ c.loop-k._k c.next_wait.result.0 opens in
    let more = waits_more c.args.core.now.plan waits c.next_wait.result.0 c.loop-k._k here in
    let whole = rw c.plan.ensures at c.in-Ok.ensures.whole in
    record {
      added = rw more
          (adds_more (g.K.Sink.written c.args.sink.now) (g.K.Sink.written c.loop-k.sink) (g.K.Sink.written c.add_wait.new.sink)
          c.args.page.now c.loop-k.page c.add_wait.new.page
          (wait_lines c.args.core.now.plan (take c.loop-k._k waits))
          (wait_text c.args.core.now.plan c.next_wait.result.0 ++ codes "\n")
          c.loop-k.invariant.added whole);
      left = rest_left waits _ c.loop-k._k c.next_wait.result.0 opens;
      quiet = c.in-Ok.ensures.quiet ∙ c.loop-k.invariant.quiet;
    }
