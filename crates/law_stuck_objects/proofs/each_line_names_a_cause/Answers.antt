-- The clause is the lemma on each line.
use Rattle.law_stuck_objects.proofs.Told.{each_line_named}
use Rattle.law_stuck_objects.proofs.each_line_names_a_cause.Goals as goal

pub returns : goal.returns
returns g c = λ plan m run resolved is_run ends k t x h has. each_line_named plan m run resolved is_run ends k t x h has
