-- A line more is taken, or it is the first bad one.
use Rattle.std.proofs.Common.{refl, inl, ◌+◌, sym, subst, ◌∙◌, arith, length, drop}
use Rattle.wdf_base.specs.Resolved.{IsResolved}
use Rattle.wdf_run_text.specs.Lines.{trace_lines}
use Rattle.wdf_replay.specs.Steps.{IsTold}
use Rattle.wdf_replay.proofs.Replayed.{IsReplayedTo, replayed_opens, replayed_goes_on, next_line}
use Rattle.wdf_replay.proofs.RunLines.{refused}
use Rattle.wdf_replay.proofs.replaying.check_lines.Goals as goal

pub loop-at-init : goal.loop-at-init
loop-at-init g c = (
  refl,
  subst (IsReplayedTo c.args.core.now.plan g.A.Agent.meaning c.args.trace.now 0 1 c.args.core.now.journal) (sym c.none_told-told.ensures)
      (replayed_opens c.args.core.now.plan g.A.Agent.meaning c.args.trace.now c.args.core.now.journal c.requires.fresh),
  inl c.none_told-told.ensures,
)

pub take_line-requires-clause-told : goal.take_line-requires-clause-told
take_line-requires-clause-told g c = subst (λ P. IsTold P g.A.Agent.meaning c.loop-at.core.journal c.loop-at.told) (sym c.loop-at.invariant.0) c.loop-at.invariant.2

pub take_line-requires-clause-resolved : goal.take_line-requires-clause-resolved
take_line-requires-clause-resolved g c = subst IsResolved (sym c.loop-at.invariant.0) c.requires.resolved

pub returns-in-Err-clause-left : goal.returns-in-Err-clause-left
returns-in-Err-clause-left g c =
    let bad = rw c.loop-at.invariant.0 at c.in-Err.ensures.taken in
    let here = refused c.args.core.now.plan g.A.Agent.meaning c.args.trace.now c.loop-at.core.journal c.loop-at.told.lines c.loop-at.number c.line_at-line.result.now
    (trace_lines (drop (c.loop-at.at + length c.line_at-line.result.now) c.args.trace.now)) c.in-Err.why
    (rw c.loop-at.invariant.0 at c.journal_len-events.ensures.run) c.loop-at.invariant.1.valid (omega (arith, c.journal_len-events.ensures.length, rw c.loop-at.invariant.0 at c.journal_len-events.ensures.within))
    c.loop-at.invariant.1.within
    (next_line c.args.core.now.plan g.A.Agent.meaning c.args.trace.now c.loop-at.at c.loop-at.number c.loop-at.core.journal c.loop-at.told.lines c.line_at-line.result.now
    c.loop-at.invariant.1 c.loop-at-test.true c.line_at-line.ensures.value)
    c.loop-at.invariant.1.counted bad.0 in (here.0, here.1 ∙ sym bad.1)

pub returns-in-Err-clause-verdict : goal.returns-in-Err-clause-verdict
returns-in-Err-clause-verdict g c = (returns-in-Err-clause-left g c).0

pub loop-at-preserved : goal.loop-at-preserved
loop-at-preserved g c =
    let taken = rw c.loop-at.invariant.0 at c.in-Ok.ensures.taken in (
      c.take_line.ensures.plan ∙ c.loop-at.invariant.0,
      replayed_goes_on c.args.core.now.plan g.A.Agent.meaning c.args.trace.now c.loop-at.at c.loop-at.number c.loop-at.core.journal c.loop-at.told.lines c.line_at-line.result.now
          c.take_line.new.core.journal c.in-Ok.now.lines
          c.loop-at.invariant.1 c.loop-at-test.true c.line_at-line.ensures.value c.line_at-line.ensures.some c.line_at-line.ensures.small taken.0 taken.1 taken.2 taken.3,
      taken.4,
    )
