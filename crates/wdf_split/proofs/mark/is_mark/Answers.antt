-- A line of plain bytes has tokens; another has none.
use Rattle.std.proofs.Common.{sym, ◌∙◌}
use Rattle.wdf_split.proofs.Marks.{mark_plain, mark_foreign}
use Rattle.wdf_split.proofs.mark.is_mark.Goals as goal

pub returns-then-is_plain_text : goal.returns-then-is_plain_text
returns-then-is_plain_text c =
    mark_plain c.args.line.now c.is_trace_alone.result
    (rw c.text_of_line-text.ensures at (sym c.is_plain_text.ensures ∙ c.if-is_plain_text.true))
    (rw c.text_of_line-text.ensures at c.is_trace_alone.ensures)

pub returns-else-is_plain_text : goal.returns-else-is_plain_text
returns-else-is_plain_text c =
    c.if-is_plain_text.false ∙ mark_foreign c.args.line.now (rw c.text_of_line-text.ensures at (sym c.is_plain_text.ensures ∙ c.if-is_plain_text.false))
