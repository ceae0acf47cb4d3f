-- The words so far, and those that are left.
use Rattle.std.proofs.Common.{◌≡◌, ◌-◌, ◌++◌}
use Rattle.rand_core.specs.Steps.{stream_of}
use Rattle.rand_xoshiro.specs.SplitMix64.{splitmix_steps}
use Rattle.wdf_run.specs.Seeds.{next_words}
use Rattle.wdf_tries.proofs.moving.words_of_seed.Given as goal

abbrev pub invariant-loop-turn : goal.invariant-loop-turn
invariant-loop-turn l =
    l.words.items ++ next_words (l.count - l._turn) (stream_of splitmix_steps l.stream) ≡ next_words l.count (stream_of splitmix_steps l.seed)
