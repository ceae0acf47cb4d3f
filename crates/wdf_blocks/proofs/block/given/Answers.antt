use Rattle.wdf_blocks.proofs.Scans.{given_past, given_there}
use Rattle.wdf_blocks.proofs.block.given.Goals as goal

pub returns-then-block-lines : goal.returns-then-block-lines
returns-then-block-lines c =
    given_there _ _ _ _ _ c.as_slice-lines.ensures.value c.given_from.ensures

pub returns-else-block-lines : goal.returns-else-block-lines
returns-else-block-lines c =
    given_past _ _ _ _ c.as_slice-lines.ensures.value c.if-block-lines.false
