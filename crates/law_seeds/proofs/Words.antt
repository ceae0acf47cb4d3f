-- Both take the next words of one stream.
use Rattle.std.proofs.Common.{◌≡◌, ℕ, zero, suc, ◌∷◌, refl, ap}
use Rattle.rand_core.specs.Stream.{Stream, next_u64}
use Rattle.rand_core.specs.Steps.{stream_of}
use Rattle.rand_xoshiro.specs.SplitMix64.{splitmix_steps}
use Rattle.wdf_gen.specs.Generated.{words}
use Rattle.wdf_run.specs.Seeds.{next_words, seed_words}

same_next : (k : ℕ) (s : Stream) → words k s ≡ next_words k s
unfolding words next_words
same_next zero s = refl
same_next (suc k) s = ap (λ ws. (next_u64 s).0 ∷ ws) (same_next k (next_u64 s).1)

pub same_words : (n count : ℕ) → words count (stream_of splitmix_steps n) ≡ seed_words n count
same_words n count = same_next count (stream_of splitmix_steps n)
