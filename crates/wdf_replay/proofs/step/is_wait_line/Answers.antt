-- The text is compared with the line at the place, if one is left.
use Rattle.std.proofs.Common.{arith}
use Rattle.wdf_run_text.specs.Texts.{end_lines}
use Rattle.wdf_run_text.specs.Lines.{fed}
use Rattle.wdf_replay.proofs.AfterEvents.{no_wait, wait_comes, wait_there, waits_left}
use Rattle.wdf_replay.proofs.step.is_wait_line.Goals as goal

pub next_wait-requires : goal.next_wait-requires
next_wait-requires g c =
    let left = waits_left c.args.core.now.plan g.A.Agent.meaning c.args.core.now.journal c.args.told c.requires.told c.requires.ended in
    omega (arith, left.1, c.if-told-eq0.false)

pub returns-then-told-eq0 : goal.returns-then-told-eq0
returns-then-told-eq0 g c =
    let left = waits_left c.args.core.now.plan g.A.Agent.meaning c.args.core.now.journal c.args.told c.requires.told c.requires.ended in (
      λ yes. absurd (let z : ⊥ = cc in z),
      λ here. absurd (no_wait c.args.core.now.plan g.A.Agent.meaning c.args.core.now.journal c.args.told (fed c.args.text.now) left c.if-told-eq0.true here),
    )

pub returns : goal.returns
returns g c =
    let left = waits_left c.args.core.now.plan g.A.Agent.meaning c.args.core.now.journal c.args.told c.requires.told c.requires.ended in
    wait_there c.args.core.now.plan c.plan.result.now (end_lines c.args.core.now.plan g.A.Agent.meaning c.args.core.now.journal) c.args.told.lines c.args.text.now
    c.next_wait.result.0 c.is_line_of_wait.result c.plan.ensures
    (wait_comes c.args.core.now.plan g.A.Agent.meaning c.args.core.now.journal c.args.told c.next_wait.result.0 _ left c.next_wait.ensures)
    c.is_line_of_wait.ensures
