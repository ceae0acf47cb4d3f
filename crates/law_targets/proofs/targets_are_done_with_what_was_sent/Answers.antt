-- The law is a lemma on runs.
use Rattle.law_targets.proofs.Runs.{may_be_done}
use Rattle.law_targets.proofs.targets_are_done_with_what_was_sent.Goals as goal

pub returns : goal.returns
returns g c = λ plan m run resolved is_run k t is n h s answer at. may_be_done plan m run resolved is_run k t is n h s answer at
