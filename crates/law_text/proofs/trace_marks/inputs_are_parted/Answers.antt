-- The clause is the lemma.
use Rattle.law_text.proofs.Parted.{parted_scene}
use Rattle.law_text.proofs.trace_marks.inputs_are_parted.Goals as goal

pub returns : goal.returns
returns c = parted_scene
