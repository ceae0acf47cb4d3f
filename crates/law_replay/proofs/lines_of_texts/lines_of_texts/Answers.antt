-- The clause is two lemmas, one each way.
use Rattle.law_replay.proofs.Cut.{text_lines, lines_text}
use Rattle.law_replay.proofs.lines_of_texts.lines_of_texts.Goals as goal

pub returns : goal.returns
returns g c = λ plan m run trace h over. (text_lines plan m run trace h over, lines_text plan m run trace over)
