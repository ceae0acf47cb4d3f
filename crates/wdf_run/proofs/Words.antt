-- The words of a stream, one by one.
use Rattle.std.proofs.Common.{ℕ, zero, suc, ◌≡◌, ◌<◌, slice_index, refl, ap, arith}
use Rattle.rand_core.specs.Stream.{Stream, next_u64}
use Rattle.wdf_run.specs.Seeds.{next_words, word_after}

-- each of the next words is the word after those before it
pub word_of_words : (count : ℕ) (s : Stream) (turn : ℕ) → turn < count → slice_index (next_words count s) turn ≡ word_after s turn
unfolding next_words word_after
word_of_words zero s turn h = absurd (omega arith)
word_of_words (suc n) s zero h = refl
word_of_words (suc n) s (suc turn) h = word_of_words n (next_u64 s).1 turn (omega arith)

-- the first word is the stream's next one, and the words after it are those of what is left
pub word_first : (s t : Stream) (x : ℕ) → (x, t) ≡ next_u64 s → x ≡ word_after s 0
unfolding word_after
word_first s t x e = ap (λ (p : ℕ × Stream). p.0) e

pub word_later : (s t : Stream) (x turn : ℕ) → (x, t) ≡ next_u64 s → word_after t turn ≡ word_after s (suc turn)
unfolding word_after
word_later s t x turn e = ap (λ (p : ℕ × Stream). word_after p.1 turn) e
