-- The scenario and the trace, from the place where the first line `trace` is.
use Rattle.std.proofs.Common.{sym, ◌∙◌}
use Rattle.wdf_split.proofs.Parting.{at_opens, at_goes_on, scenario_ends, trace_begins}
use Rattle.wdf_split.proofs.parts.split.Goals as goal

pub loop-at-init : goal.loop-at-init
loop-at-init c = at_opens c.args.input.now

pub returns-then-is_mark-clause-scenario : goal.returns-then-is_mark-clause-scenario
returns-then-is_mark-clause-scenario c =
    scenario_ends c.args.input.now c.line_at-line.result.now c.loop-at.at c.loop-at-test.true c.line_at-line.ensures.value (sym c.is_mark.ensures ∙ c.if-is_mark.true) c.loop-at.invariant

pub returns-then-is_mark-clause-trace : goal.returns-then-is_mark-clause-trace
returns-then-is_mark-clause-trace c =
    trace_begins c.args.input.now c.line_at-line.result.now c.loop-at.at c.loop-at-test.true c.line_at-line.ensures.value (sym c.is_mark.ensures ∙ c.if-is_mark.true) c.loop-at.invariant

pub loop-at-preserved : goal.loop-at-preserved
loop-at-preserved c =
    at_goes_on c.args.input.now c.line_at-line.result.now c.loop-at.at c.loop-at-test.true c.line_at-line.ensures.value c.line_at-line.ensures.small (sym c.is_mark.ensures ∙ c.if-is_mark.false) c.loop-at.invariant
