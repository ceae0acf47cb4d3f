use Rattle.std.proofs.Common.{◌∙◌}
use Rattle.wdf_plan.specs.Fitting.{IsFitStatement}
use Rattle.wdf_plan.proofs.Rooms.{next_fits, next_room}
use Rattle.wdf_plan.proofs.Writings.{writing_over, writing_next, writing_more, writing_ends}
use Rattle.wdf_plan.proofs.writer.statements_from.Goals as goal

pub returns-then-ends_callback : goal.returns-then-ends_callback
returns-then-ends_callback c =
    writing_over _ _ _ _ _ _ _ _ c.index-lines-at.result c.loop-at.invariant.0 c.loop-at-test.true c.index-lines-at.is c.as_slice-open.ensures.value c.if-ends_callback.ensures

pub add_statement-requires-clause-fits : goal.add_statement-requires-clause-fits
add_statement-requires-clause-fits c =
    next_fits IsFitStatement _ _ _ (writing_next c.args.names.now c.args.variables.now c.args.lines.now c.args.from c.loop-at.blocks.items c.as_slice-open.result.now c.in_ok-after.after.items c.as_slice.result.now c.loop-at.statements c.from-number.result c.loop-at.at c.index-lines-at.result c.loop-at.invariant.0 c.loop-at-test.true c.index-lines-at.is c.as_slice-open.ensures.value c.if-ends_callback.ensures (c.from-number.ensures ∙ c.len.ensures.value) c.in_ok-after.ensures c.as_slice.ensures.value) c.requires.fit

pub add_statement-requires-clause-room : goal.add_statement-requires-clause-room
add_statement-requires-clause-room c =
    next_room _ _ _ _ (writing_next c.args.names.now c.args.variables.now c.args.lines.now c.args.from c.loop-at.blocks.items c.as_slice-open.result.now c.in_ok-after.after.items c.as_slice.result.now c.loop-at.statements c.from-number.result c.loop-at.at c.index-lines-at.result c.loop-at.invariant.0 c.loop-at-test.true c.index-lines-at.is c.as_slice-open.ensures.value c.if-ends_callback.ensures (c.from-number.ensures ∙ c.len.ensures.value) c.in_ok-after.ensures c.as_slice.ensures.value) c.requires.room

pub loop-at-preserved : goal.loop-at-preserved
loop-at-preserved c = (
  writing_more _ _ _ _ c.loop-at.blocks.items c.as_slice-open.result.now c.in_ok-after.after.items c.as_slice.result.now c.loop-at.statements _ c.from-number.result c.loop-at.at c.index-lines-at.result c.loop-at.invariant.0 c.loop-at-test.true c.index-lines-at.is c.as_slice-open.ensures.value c.if-ends_callback.ensures (c.from-number.ensures ∙ c.len.ensures.value) c.in_ok-after.ensures c.as_slice.ensures.value c.in_ok-detours.ensures.added,
  rw c.as_slice.ensures.value at c.in_ok-detours.ensures.kept,
  rw c.as_slice.ensures.value at c.in_ok-detours.ensures.each,
)

pub returns : goal.returns
returns c = writing_ends _ _ _ _ _ _ _ c.loop-at.invariant.0 c.loop-at-test.false
