-- One id more has no line, or has the next one; past the last id there is none.
use Rattle.std.proofs.Common.{sym, ◌∙◌, arith}
use Rattle.wdf_waits.proofs.OnWalks.{rest_here, rest_past, rest_skips}
use Rattle.wdf_waits.proofs.walk.next_in.Goals as goal

pub loop-id-preserved : goal.loop-id-preserved
loop-id-preserved g c =
    rest_skips c.args.plan.now g.A.Agent.meaning c.args.parts.now c.args.section c.section_end-id-end.result c.loop-id.id c.section_end-id-end.ensures.lines (omega arith) (sym c.in_default.is ∙ c.line_in.ensures) ∙ c.loop-id.invariant

pub returns-in-Some : goal.returns-in-Some
returns-in-Some g c =
    sym c.loop-id.invariant
    ∙ rest_here c.args.plan.now g.A.Agent.meaning c.args.parts.now c.args.section c.section_end-id-end.result c.loop-id.id c.in-Some.line c.section_end-id-end.ensures.lines (omega arith) (sym c.in-Some.is ∙ c.line_in.ensures)

pub returns : goal.returns
returns g c = sym c.loop-id.invariant ∙ rest_past c.args.plan.now g.A.Agent.meaning c.args.parts.now c.args.section c.section_end-id-end.result c.loop-id.id c.section_end-id-end.ensures.lines (omega arith)
