-- The law is a lemma on runs.
use Rattle.law_targets.proofs.Depths.{sent_few}
use Rattle.law_targets.proofs.targets_keep_at_most_their_depth.Goals as goal

pub returns : goal.returns
returns g c = λ plan m run is_run k t is n. sent_few plan m k t is run is_run n
