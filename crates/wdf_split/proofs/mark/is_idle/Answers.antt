-- What comes after the blanks.
use Rattle.std.proofs.Common.{sym}
use Rattle.wdf_split.proofs.Marks.{idle_first, idle_none}
use Rattle.wdf_split.proofs.mark.is_idle.Goals as goal

pub returns-in-Some : goal.returns-in-Some
returns-in-Some c = idle_first c.args.text.now c.in-Some.first.now (rw c.after_blanks.ensures at (sym c.in-Some.ensures.value))

pub returns-in-None : goal.returns-in-None
returns-in-None c = idle_none c.args.text.now (rw c.after_blanks.ensures at (sym c.in-None.ensures.value))
