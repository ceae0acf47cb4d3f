-- The reads are added one by one, and the whole text is the scene that a number gives.
use Rattle.std.proofs.Common.{◌≡◌, ℕ, suc, ◌+◌, ◌-◌, ◌<◌, ◌≤◌, List, [], refl, ap, ◌∙◌, arith, codes}
use Rattle.rand_core.specs.Stream.{Stream, next_u64}
use Rattle.rand_core.specs.Steps.{stream_of}
use Rattle.rand_xoshiro.specs.SplitMix64.{splitmix_steps}
use Rattle.wdf_scene.specs.declared.scene.Scene.{Scene}
use Rattle.wdf_gen.specs.Generated.{words, seed_words, read_lines, reads_from, app_lines, head_lines, text_lines, generated}
use Rattle.wdf_gen.specs.Writing.{extended}
use Rattle.wdf_gen.proofs.Extended.{the_scene, extended_none, extended_twice, extended_further}

pub all_left : (s : Scene) (a n seed : ℕ) → seed ≡ n → extended s (reads_from a 0 (words 2900 (stream_of splitmix_steps seed))) ≡ extended s (reads_from a 0 (seed_words n))
unfolding seed_words
all_left s a n seed e = ap (λ x. extended s (reads_from a 0 (words 2900 (stream_of splitmix_steps x)))) e

read_first : (s : Scene) (a k left : ℕ) (words_left : Stream) → extended (extended s (read_lines a k (next_u64 words_left).0)) (reads_from a (suc k) (words left (next_u64 words_left).1)) ≡ extended s (reads_from a k (words (suc left) words_left))
unfolding words reads_from
read_first s a k left words_left =
    extended_twice s (read_lines a k (next_u64 words_left).0) (reads_from a (suc k) (words left (next_u64 words_left).1))

pub read_added : (s z : Scene) (a k w : ℕ) (before after : Stream) → k < 2900 → (w, after) ≡ next_u64 before → z ≡ extended s (read_lines a k w) → extended z (reads_from a (k + 1) (words (2900 - (k + 1)) after)) ≡ extended s (reads_from a k (words (2900 - k) before))
read_added s z a k w before after small next added =
    let here : w ≡ (next_u64 before).0 = ap (λ p. p.0) next in
    let behind : after ≡ (next_u64 before).1 = ap (λ p. p.1) next in
    let one : k + 1 ≡ suc k = omega arith in
    let less : suc (2900 - (k + 1)) ≡ 2900 - k = omega (arith, small) in
    ap (λ x. extended x (reads_from a (k + 1) (words (2900 - (k + 1)) after))) added
    ∙ ap (λ x. extended (extended s (read_lines a k x)) (reads_from a (k + 1) (words (2900 - (k + 1)) after))) here
    ∙ ap (λ x. extended (extended s (read_lines a k (next_u64 before).0)) (reads_from a (k + 1) (words (2900 - (k + 1)) x))) behind
    ∙ ap (λ x. extended (extended s (read_lines a k (next_u64 before).0)) (reads_from a x (words (2900 - (k + 1)) (next_u64 before).1))) one
    ∙ read_first s a k (2900 - (k + 1)) before
    ∙ ap (λ x. extended s (reads_from a k (words x before))) less

pub none_left : (s : Scene) (a k : ℕ) (words_left : Stream) → 2900 ≤ k → extended s (reads_from a k (words (2900 - k) words_left)) ≡ s
unfolding words reads_from
none_left s a k words_left past =
    let less : 2900 - k ≡ 0 = omega (arith, past) in
    ap (λ x. extended s (reads_from a k (words x words_left))) less ∙ extended_none s

whole : (n : ℕ) → extended (the_scene 1 [] []) (text_lines (seed_words n)) ≡ generated n
unfolding extended generated
whole n = refl

pub text_written : (n : ℕ) (s0 s1 s2 s3 s4 s5 : Scene) → s0 ≡ the_scene 1 [] [] → s1 ≡ extended s0 head_lines
    → s2 ≡ extended s1 (app_lines (codes "A0") 0 (seed_words n))
    → s3 ≡ extended s2 (app_lines (codes "A1") 1 (seed_words n))
    → s4 ≡ extended s3 (app_lines (codes "A2") 2 (seed_words n))
    → s5 ≡ extended s4 (app_lines (codes "A3") 3 (seed_words n))
    → s5 ≡ generated n
text_written n s0 s1 s2 s3 s4 s5 blank e1 e2 e3 e4 e5 =
    let f2 = extended_further s0 s1 s2 head_lines (app_lines (codes "A0") 0 (seed_words n)) e1 e2 in
    let f3 = extended_further s0 s2 s3 _ (app_lines (codes "A1") 1 (seed_words n)) f2 e3 in
    let f4 = extended_further s0 s3 s4 _ (app_lines (codes "A2") 2 (seed_words n)) f3 e4 in
    let f5 = extended_further s0 s4 s5 _ (app_lines (codes "A3") 3 (seed_words n)) f4 e5 in
    f5 ∙ ap (λ z. extended z (text_lines (seed_words n))) blank ∙ whole n

pub app_named : (s y : Scene) (a n : ℕ) (given name : List ℕ) → given ≡ name → y ≡ extended s (app_lines given a (seed_words n)) → y ≡ extended s (app_lines name a (seed_words n))
app_named s y a n given name e written = written ∙ ap (λ x. extended s (app_lines x a (seed_words n))) e
