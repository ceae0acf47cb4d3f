use Rattle.law_text.proofs.Marks.{mark_reads, reads_mark}
use Rattle.law_text.proofs.trace_marks.marks_are_one_token.Goals as goal

pub returns : goal.returns
returns c = λ line. (mark_reads line, reads_mark line)
