-- The word comes after the blanks, or doesn't.
use Rattle.std.proofs.Common.{sym, ◌∙◌}
use Rattle.wdf_split.proofs.Marks.{trace_there, no_trace_there}
use Rattle.wdf_split.proofs.mark.is_trace_alone.Goals as goal

pub returns-in-Some : goal.returns-in-Some
returns-in-Some c = c.is_idle.ensures ∙ trace_there c.args.text.now c.in-Some.rest.now (sym c.after_blanks.ensures ∙ c.in-Some.ensures.found)

pub returns-in-None : goal.returns-in-None
returns-in-None c = no_trace_there c.args.text.now (rw c.after_blanks.ensures at c.in-None.ensures.none)
