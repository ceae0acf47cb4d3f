-- Each word that is cut off is the one at its place in the whole text.
use Rattle.std.proofs.Common.{◌≡◌, ◌∙◌, ◌+◌, ℕ, refl}
use Rattle.wdf_trace.specs.Reading.{word, words}
use Rattle.wdf_trace.proofs.FirstWords.{cons}
use Rattle.wdf_trace.proofs.reading.Words.of.Goals as goal

pub invariant_of-result : goal.invariant_of-result
invariant_of-result c =
    let A1 : (k : ℕ) → word k (words c.cut.result.1.now) ≡ word (k + 1) (words c.args.text.now) = c.cut.ensures.after in
    let A2 : (k : ℕ) → word k (words c.cut-2.result.1.now) ≡ word (k + 1 + 1) (words c.args.text.now) = λ k. c.cut-2.ensures.after k ∙ A1 (k + 1) in
    let A3 : (k : ℕ) → word k (words c.cut-3.result.1.now) ≡ word (k + 1 + 1 + 1) (words c.args.text.now) = λ k. c.cut-3.ensures.after k ∙ A2 (k + 1) in
    let A4 : (k : ℕ) → word k (words c.cut-4.result.1.now) ≡ word (k + 1 + 1 + 1 + 1) (words c.args.text.now) = λ k. c.cut-4.ensures.after k ∙ A3 (k + 1) in
    let A5 : (k : ℕ) → word k (words c.cut-5.result.1.now) ≡ word (k + 1 + 1 + 1 + 1 + 1) (words c.args.text.now) = λ k. c.cut-5.ensures.after k ∙ A4 (k + 1) in
    let A6 : (k : ℕ) → word k (words c.cut-6.result.1.now) ≡ word (k + 1 + 1 + 1 + 1 + 1 + 1) (words c.args.text.now) = λ k. c.cut-6.ensures.after k ∙ A5 (k + 1) in
    let A7 : (k : ℕ) → word k (words c.cut-7.result.1.now) ≡ word (k + 1 + 1 + 1 + 1 + 1 + 1 + 1) (words c.args.text.now) = λ k. c.cut-7.ensures.after k ∙ A6 (k + 1) in
    let A8 : (k : ℕ) → word k (words c.cut-8.result.1.now) ≡ word (k + 1 + 1 + 1 + 1 + 1 + 1 + 1 + 1) (words c.args.text.now) = λ k. c.cut-8.ensures.after k ∙ A7 (k + 1) in
    cons c.cut.ensures.first (cons (c.cut-2.ensures.first ∙ A1 0) (cons (c.cut-3.ensures.first ∙ A2 0) (cons (c.cut-4.ensures.first ∙ A3 0) (cons (c.cut-5.ensures.first ∙ A4 0) (cons (c.cut-6.ensures.first ∙ A5 0) (cons (c.cut-7.ensures.first ∙ A6 0) (cons (c.cut-8.ensures.first ∙ A7 0) (cons (c.cut-9.ensures.first ∙ A8 0) refl))))))))
