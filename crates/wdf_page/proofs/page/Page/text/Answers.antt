-- A byte more of the text is escaped.
use Rattle.std.proofs.Common.{append_assoc, arith}
use Rattle.wdf_page.proofs.Escapes.{escaped_more}
use Rattle.wdf_page.proofs.page.Page.text.Goals as goal

pub loop-byte-preserved : goal.loop-byte-preserved
loop-byte-preserved c =
    grind (arith, append_assoc, escaped_more c.args.text.now c.loop-byte.byte-index 0 c.loop-byte-test.true, c.in-Ok.ensures, c.loop-byte.invariant)
