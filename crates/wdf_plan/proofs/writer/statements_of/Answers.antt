use Rattle.wdf_plan.proofs.Writings.{statements_are, statements_there, statements_past}
use Rattle.wdf_plan.proofs.writer.statements_of.Goals as goal

pub statements_from-requires-clause-fit : goal.statements_from-requires-clause-fit
statements_from-requires-clause-fit c =
    rw (statements_are c.args.scene.now c.args.names.now c.as_slice-lines.result.now c.in_ok-variables.variables c.args.callback c.as_slice-lines.ensures.value c.in_ok-variables.ensures) c.requires.fit

pub statements_from-requires-clause-room : goal.statements_from-requires-clause-room
statements_from-requires-clause-room c =
    rw (statements_are c.args.scene.now c.args.names.now c.as_slice-lines.result.now c.in_ok-variables.variables c.args.callback c.as_slice-lines.ensures.value c.in_ok-variables.ensures) c.requires.room

pub returns-then-callback-lines : goal.returns-then-callback-lines
returns-then-callback-lines c =
    statements_there _ _ _ _ _ _ c.as_slice-lines.ensures.value c.in_ok-variables.ensures c.statements_from.ensures

pub returns : goal.returns
returns c =
    statements_past _ _ _ _ _ c.as_slice-lines.ensures.value c.if-callback-lines.false c.new.ensures
