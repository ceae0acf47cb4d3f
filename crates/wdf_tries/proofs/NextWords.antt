-- The words of a stream, one more at the end of a list.
use Rattle.std.proofs.Common.{ℕ, zero, suc, ◌≡◌, ◌+◌, ◌-◌, ◌<◌, List, [], ◌∷◌, ◌++◌, refl, sym, ap, ◌∙◌, arith, append_assoc, append-nil, length}
use Rattle.rand_core.specs.Stream.{Stream, next_u64}
use Rattle.wdf_run.specs.Seeds.{next_words}

next_of : (n : ℕ) (s t : Stream) (x : ℕ) → (x, t) ≡ next_u64 s → next_words (suc n) s ≡ x ∷ next_words n t
unfolding next_words
next_of n s t x is = ap (λ (p : ℕ × Stream). p.0 ∷ next_words n p.1) (sym is)

-- no word yet
pub none_yet : (count : ℕ) (words : List ℕ) (s t : Stream) → words ≡ [] → s ≡ t → words ++ next_words (count - 0) s ≡ next_words count t
none_yet count words s t none same =
    let size : count - 0 ≡ count = omega arith in
    ap (λ ws. ws ++ next_words (count - 0) s) none ∙ ap (λ n. next_words n s) size ∙ ap (λ r. next_words count r) same

-- the next word is added
pub one_more : (count k : ℕ) (words all : List ℕ) (s t : Stream) (x : ℕ) → k < count → (x, t) ≡ next_u64 s → words ++ next_words (count - k) s ≡ all
    → (words ++ x ∷ []) ++ next_words (count - (k + 1)) t ≡ all
one_more count k words all s t x less is so_far =
    let size : count - k ≡ suc (count - (k + 1)) = omega arith in
    let next : next_words (count - k) s ≡ x ∷ next_words (count - (k + 1)) t = ap (λ n. next_words n s) size ∙ next_of (count - (k + 1)) s t x is in
    append_assoc words (x ∷ []) (next_words (count - (k + 1)) t) ∙ ap (λ ws. words ++ ws) (sym next) ∙ so_far

-- no word is left
pub none_left : (count k : ℕ) (words all : List ℕ) (s : Stream) → count - k ≡ 0 → words ++ next_words (count - k) s ≡ all → words ≡ all
unfolding next_words
none_left count k words all s none so_far = sym (append-nil words) ∙ (rw none at so_far)

-- how many words there are
pub words_len : (count : ℕ) (s : Stream) → length (next_words count s) ≡ count
unfolding next_words
words_len zero s = refl
words_len (suc count) s = ap suc (words_len count (next_u64 s).1)
