-- A step more from line to line.
use Rattle.std.proofs.Common.{◌≡◌, ℕ, suc, ◌+◌, ◌-◌, ◌<◌, List, ◌++◌, codes, decimal, Option, Some, sym, ap, ◌∙◌, arith, append_assoc}
use Rattle.std.specs.Option.{option_and_then}
use Rattle.wdf_explain.specs.Links.{by_next, follow, next_at, steps_text}

pub follow_more : (nexts : List (Option ℕ)) (steps step at next : ℕ) (end : Option ℕ) → step < steps → next_at nexts at ≡ Some next → follow nexts (steps - step) at ≡ end → follow nexts (steps - (step + 1)) next ≡ end
follow_more nexts steps step at next end less is before =
    let one : steps - step ≡ suc (steps - (step + 1)) = omega (arith, less) in
    let here : follow nexts (suc (steps - (step + 1))) at ≡ follow nexts (steps - (step + 1)) next = ap (option_and_then (follow nexts (steps - (step + 1)))) is in
    sym here ∙ ap (λ n. follow nexts n at) (sym one) ∙ before

pub steps_more : (nexts : List (Option ℕ)) (steps step at next : ℕ) (out new end : List ℕ) → step < steps → next_at nexts at ≡ Some next → new ≡ out ++ (codes ", " ++ decimal next)
    → out ++ steps_text nexts (steps - step) at ≡ end → new ++ steps_text nexts (steps - (step + 1)) next ≡ end
steps_more nexts steps step at next out new end less is more before =
    let one : steps - step ≡ suc (steps - (step + 1)) = omega (arith, less) in
    let here : steps_text nexts (suc (steps - (step + 1))) at ≡ codes ", " ++ decimal next ++ steps_text nexts (steps - (step + 1)) next = ap (by_next (steps_text nexts (steps - (step + 1)))) is in
    ap (λ o. o ++ steps_text nexts (steps - (step + 1)) next) more
    ∙ append_assoc out (codes ", " ++ decimal next) (steps_text nexts (steps - (step + 1)) next)
    ∙ ap (λ t. out ++ t) (sym here)
    ∙ ap (λ n. out ++ steps_text nexts n at) (sym one)
    ∙ before
