-- One event more in a walk over the events of a run.
use Rattle.std.proofs.Common.{◌≡◌, ℕ, ◌+◌, ◌<◌, Bool, List, [], ◌∷◌, ◌++◌, length, get_or, take, sym, ap, ◌∙◌, append_assoc, arith}
use Rattle.std.proofs.lemmas.List.{take_more, length-take-le}
use Rattle.wdf_base.specs.declared.event.Event.{Event}
use Rattle.wdf_explain.specs.declared.asked.Asked.{Asked}
use Rattle.wdf_explain.specs.About.{is_asked, number_if, numbers_from, numbers_of}

-- the numbers of events with one more at the end
numbers_from-append : (asked : Asked) (n : ℕ) (es : List Event) (e : Event) → numbers_from asked n (es ++ e ∷ []) ≡ numbers_from asked n es ++ number_if (is_asked asked e) (n + length es)
numbers_from-append asked n [] e = grind arith
numbers_from-append asked n (d ∷ es) e = grind (arith, append_assoc, numbers_from-append asked (n + 1) es e)

-- the numbers among the events up to a place, and that at it
pub numbers_more : (asked : Asked) (es : List Event) (k : ℕ) (d : Event) → k < length es
    → numbers_of asked (take (k + 1) es) ≡ numbers_of asked (take k es) ++ number_if (is_asked asked (get_or es k d)) (k + 1)
numbers_more asked es k d h =
    let counted : length (take k es) ≡ k = length-take-le k es (omega (arith, h)) in
    grind (arith, take_more es k d h, counted, numbers_from-append asked 1 (take k es) (get_or es k d))

pub numbers_step : (asked : Asked) (es : List Event) (k : ℕ) (d : Event) (so_far items : List ℕ) (b : Bool) → k < length es → items ≡ so_far ++ number_if b (k + 1) → b ≡ is_asked asked (get_or es k d)
    → so_far ≡ numbers_of asked (take k es) → items ≡ numbers_of asked (take (k + 1) es)
numbers_step asked es k d so_far items b h more is before =
    more ∙ ap (λ t. so_far ++ number_if t (k + 1)) is ∙ ap (λ ns. ns ++ number_if (is_asked asked (get_or es k d)) (k + 1)) before ∙ sym (numbers_more asked es k d h)
