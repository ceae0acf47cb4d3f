-- What is left of findings from one of them on.
use Rattle.std.proofs.Common.{ℕ, ◌≡◌, ◌<◌, ◌+◌, ◌++◌, zero, suc, List, [], ◌∷◌, length, drop, Some, slice_get, refl, ap, ◌∙◌, arith, append_assoc}
use Rattle.wdf_lint.specs.Findings.{Finding}
use Rattle.wdf_lint_text.specs.Lines.{finding_lines, finding_text}

next_of : (fs : List Finding) (k : ℕ) → k < length fs → (f : Finding) × (slice_get fs k ≡ Some f) × (drop k fs ≡ f ∷ drop (suc k) fs)
next_of [] k within = absurd (omega (arith, within))
next_of (f ∷ fs) zero within = (f, refl, refl)
next_of (f ∷ fs) (suc k) within = next_of fs k (omega (arith, within))

-- one line is added
pub line_added : (fs : List Finding) (k : ℕ) (out more initial : List ℕ) → k < length fs → out ++ finding_lines (drop k fs) ≡ initial ++ finding_lines fs
    → ((f : Finding) → slice_get fs k ≡ Some f → more ≡ out ++ finding_text f) → more ++ finding_lines (drop (k + 1) fs) ≡ initial ++ finding_lines fs
line_added fs k out more initial within kept added =
    let next : (f : Finding) × (slice_get fs k ≡ Some f) × (drop k fs ≡ f ∷ drop (suc k) fs) = next_of fs k within in
    let here : suc k ≡ k + 1 = omega arith in
    let same : more ≡ out ++ finding_text next.0 = added next.0 next.1 in
    let left : drop k fs ≡ next.0 ∷ drop (k + 1) fs = next.2 ∙ ap (λ n. next.0 ∷ drop n fs) here in
    let joined : out ++ (finding_text next.0 ++ finding_lines (drop (k + 1) fs)) ≡ initial ++ finding_lines fs = rw left at kept in
    rw same (append_assoc out (finding_text next.0) (finding_lines (drop (k + 1) fs)) ∙ joined)
