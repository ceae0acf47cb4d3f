-- The clause is the lemma.
use Rattle.law_text.proofs.Parted.{no_mark}
use Rattle.law_text.proofs.trace_marks.scenarios_have_no_mark.Goals as goal

pub returns : goal.returns
returns c = no_mark
