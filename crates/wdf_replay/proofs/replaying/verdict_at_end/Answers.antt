-- All lines of the run are there, or the run has more.
use Rattle.std.proofs.Common.{inl, inr, sym, ◌∙◌, arith}
use Rattle.wdf_replay.proofs.RunLines.{accepted, length-end_lines, missing}
use Rattle.wdf_replay.proofs.replaying.verdict_at_end.Goals as goal
use Rattle.wdf_replay.proofs.replaying.verdict_at_end.Goals.{in-Running, in_default}

pub returns-then-matches-clause-left : goal.returns-then-matches-clause-left
returns-then-matches-clause-left g c =
    missing c.args.core.now.plan g.A.Agent.meaning c.args.trace.now c.args.core.now.journal c.args.told c.args.number
    c.journal_len-events.ensures.run c.requires.valid (omega (arith, c.journal_len-events.ensures.length, c.journal_len-events.ensures.within))
    c.requires.within c.requires.good c.requires.number
    (inl (elim c.match-matches.branch [
      | in-Running w ↦ sym c.ending-ending.ensures ∙ w.in-Running.is
      | in_default w ↦ absurd (let z : ⊥ = cc (sym w.matches-is ∙ c.if-matches.true) in z)
    ]))

pub returns-then-matches-clause-verdict : goal.returns-then-matches-clause-verdict
returns-then-matches-clause-verdict g c = (returns-then-matches-clause-left g c).0

pub returns-then-told-wait_len-clause-left : goal.returns-then-told-wait_len-clause-left
returns-then-told-wait_len-clause-left g c =
    let lines = length-end_lines c.args.core.now.plan g.A.Agent.meaning c.args.core.now.journal (λ h. elim c.match-matches.branch [
      | in-Running w ↦ let z : ⊥ = cc (sym w.matches-is ∙ c.if-matches.false) in z
      | in_default w ↦ w.in_default.not-Running (c.ending-ending.ensures ∙ h)
    ]) in
    missing c.args.core.now.plan g.A.Agent.meaning c.args.trace.now c.args.core.now.journal c.args.told c.args.number
    c.journal_len-events.ensures.run c.requires.valid (omega (arith, c.journal_len-events.ensures.length, c.journal_len-events.ensures.within))
    c.requires.within c.requires.good c.requires.number
    (inr (omega (arith, lines, c.if-told-wait_len.true, c.wait_len.ensures)))

pub returns-then-told-wait_len-clause-verdict : goal.returns-then-told-wait_len-clause-verdict
returns-then-told-wait_len-clause-verdict g c = (returns-then-told-wait_len-clause-left g c).0

pub returns-clause-left : goal.returns-clause-left
returns-clause-left g c =
    accepted c.args.core.now.plan g.A.Agent.meaning c.args.trace.now c.args.core.now.journal c.args.told c.ending-ending.result
    c.journal_len-events.ensures.run c.requires.valid (omega (arith, c.journal_len-events.ensures.length, c.journal_len-events.ensures.within)) c.ending-ending.ensures
    (λ h. elim c.match-matches.branch [
      | in-Running w ↦ let z : ⊥ = cc (sym w.matches-is ∙ c.if-matches.false) in z
      | in_default w ↦ w.in_default.not-Running h
    ])
    c.requires.good (omega (arith, c.if-told-wait_len.false, c.wait_len.ensures))

pub returns-clause-verdict : goal.returns-clause-verdict
returns-clause-verdict g c = (returns-clause-left g c).0
