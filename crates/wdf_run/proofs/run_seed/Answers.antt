-- The list of the seed's first words has each word that a turn of the run may ask for.
use Rattle.rand_core.specs.Steps.{stream_of}
use Rattle.rand_xoshiro.specs.SplitMix64.{splitmix_steps}
use Rattle.wdf_run.specs.Seeds.{seed_words}
use Rattle.wdf_run.proofs.Words.{word_of_words}
use Rattle.wdf_run.proofs.run_seed.Goals as goal

pub returns-clause-picked : goal.returns-clause-picked
returns-clause-picked g c =
    let limit = c.args.core.now.plan.limit in
    c.run_by.ensures.picked (seed_words c.args.seed limit)
    (λ turn below. rw c.new.ensures (word_of_words limit (stream_of splitmix_steps c.args.seed) turn below))
