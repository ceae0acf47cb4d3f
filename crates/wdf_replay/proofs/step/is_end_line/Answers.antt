-- The first of the lines is that of the ending.
use Rattle.std.proofs.Common.{◌≡◌, sym, ◌∙◌, arith}
use Rattle.wdf_base.specs.declared.event.Ending.TheVariants as ending
use Rattle.wdf_model.specs.rules.Ready.{ending_of}
use Rattle.wdf_replay.proofs.RunLines.{end_first, end_first_back}
use Rattle.wdf_replay.proofs.step.is_end_line.Goals as goal
use Rattle.wdf_replay.proofs.step.is_end_line.Goals.{in-Running, in_default}

pub returns : goal.returns
returns g c =
    let none : c.args.told.lines ≡ 0 = omega (arith, c.if-told-gt0.false) in
    let over : ending_of c.args.core.now.plan g.A.Agent.meaning c.args.core.now.journal ≡ ending.Running → ⊥ = λ h.
    elim c.match-matches.branch [
      | in-Running w ↦ let z : ⊥ = cc (sym w.matches-is ∙ c.if-matches.false) in z
      | in_default w ↦ w.in_default.not-Running (c.ending.ensures ∙ h)
    ] in (
      λ yes. end_first c.args.core.now.plan g.A.Agent.meaning c.args.core.now.journal c.args.told.lines c.args.text.now over none (c.is_ending_line.ensures.0 yes),
      λ here. c.is_ending_line.ensures.1 (end_first_back c.args.core.now.plan g.A.Agent.meaning c.args.core.now.journal c.args.told.lines c.args.text.now over none here),
    )
