-- The clause is the lemma on each line.
use Rattle.law_stuck_named.proofs.Whole.{line_is_named}
use Rattle.law_stuck_named.proofs.lines_name_a_cause.Goals as goal

pub returns : goal.returns
returns g c = λ plan m run resolved is_run ends k t x h is. line_is_named plan m run resolved is_run ends k t x h is
