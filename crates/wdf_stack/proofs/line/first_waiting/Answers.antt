-- The first request that waits, or the end.
use Rattle.std.proofs.Common.{sym, ◌∙◌}
use Rattle.wdf_model.specs.agents.Connector.{is_waiting}
use Rattle.wdf_stack.proofs.Finding.{none_before_next, none_in_all, none_waits_at_end, waits_at}
use Rattle.wdf_stack.proofs.line.first_waiting.Goals as goal

pub returns-then-is_waiting : goal.returns-then-is_waiting
returns-then-is_waiting c = record {
  before = c.loop-place.invariant;
  waits = waits_at c.args.sent.now c.loop-place.place _ c.loop-place-test.true (sym c.is_waiting.ensures ∙ c.if-is_waiting.true);
}

pub loop-place-preserved : goal.loop-place-preserved
loop-place-preserved c = none_before_next is_waiting c.args.sent.now c.loop-place.place _ c.loop-place-test.true c.loop-place.invariant (sym c.is_waiting.ensures ∙ c.if-is_waiting.false)

pub returns : goal.returns
returns c = record {
  before = none_in_all is_waiting c.loop-place.place c.args.sent.now c.loop-place-test.false c.loop-place.invariant;
  waits = none_waits_at_end c.args.sent.now;
}
