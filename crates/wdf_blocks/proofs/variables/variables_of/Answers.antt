use Rattle.wdf_blocks.proofs.Assigned.{variables_if, variables_past}
use Rattle.wdf_blocks.proofs.variables.variables_of.Goals as goal

pub returns-then-callback-lines : goal.returns-then-callback-lines
returns-then-callback-lines c =
    variables_if _ _ _ _ c.as_slice-lines.ensures.value c.assigned_from.ensures

pub returns-else-callback-lines : goal.returns-else-callback-lines
returns-else-callback-lines c =
    variables_past _ _ _ _ c.as_slice-lines.ensures.value c.if-callback-lines.false c.new.ensures
