-- The words of a seed: those of the kit's generator SplitMix64, first to last.
use Rattle.std.specs.Prelude.{ℕ, zero, suc, List, [], ◌∷◌}
use Rattle.rand_core.specs.Stream.{Stream, next_u64}
use Rattle.rand_core.specs.Steps.{stream_of}
use Rattle.rand_xoshiro.specs.SplitMix64.{splitmix_steps}

-- the next words of 64 bits that a stream gives, so many
unfoldable pub next_words : ℕ → Stream → List ℕ
next_words zero s = []
next_words (suc n) s = (next_u64 s).0 ∷ next_words n (next_u64 s).1

-- The first words of `SplitMix64::seed_from_u64(seed)`, so many.
abbrev pub seed_words : ℕ → ℕ → List ℕ
seed_words seed count = next_words count (stream_of splitmix_steps seed)

-- the word that comes after so many words of a stream
unfoldable pub word_after : Stream → ℕ → ℕ
word_after s zero = (next_u64 s).0
word_after s (suc n) = word_after (next_u64 s).1 n
