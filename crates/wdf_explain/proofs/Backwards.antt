-- A turn more, backwards.
use Rattle.std.proofs.Common.{◌≡◌, ℕ, zero, suc, ◌-◌, ◌<◌, List, length, get_or, Option, Some, None, slice_get, sym, subst, ap, ◌∙◌, arith}
use Rattle.std.proofs.lemmas.Option.{slice_get-get_or}
use Rattle.wdf_base.specs.declared.event.Event.{Event}
use Rattle.wdf_explain.specs.declared.turns.Turn.{Turn}
use Rattle.wdf_explain.specs.About.{depth_before, found, frame_under, or_else, turn_if_any, turn_of}

-- the turn of the event before so many events are left
turn_there : (cpu : ℕ) (run : List Event) (n : ℕ) (d : Event) → n < length run → turn_if_any cpu (suc n) (slice_get run n) ≡ turn_of cpu (suc n) (get_or run n d)
turn_there cpu run n d less = ap (turn_if_any cpu (suc n)) (slice_get-get_or run n d less)

none_by : (cpu : ℕ) (run : List Event) (n depth : ℕ) (d : Event) → n < length run → found (turn_of cpu (suc n) (get_or run n d)) depth ≡ None
    → frame_under cpu run (suc n) depth ≡ frame_under cpu run n (depth_before (turn_of cpu (suc n) (get_or run n d)) depth)
none_by cpu run n depth d less none =
    ap (λ t. or_else (found t depth) (frame_under cpu run n (depth_before t depth))) (turn_there cpu run n d less)
    ∙ ap (λ o. or_else o (frame_under cpu run n (depth_before (turn_of cpu (suc n) (get_or run n d)) depth))) none

some_by : (cpu : ℕ) (run : List Event) (n depth f : ℕ) (d : Event) → n < length run → found (turn_of cpu (suc n) (get_or run n d)) depth ≡ Some f → frame_under cpu run (suc n) depth ≡ Some f
some_by cpu run n depth f d less some =
    ap (λ t. or_else (found t depth) (frame_under cpu run n (depth_before t depth))) (turn_there cpu run n d less)
    ∙ ap (λ o. or_else o (frame_under cpu run n (depth_before (turn_of cpu (suc n) (get_or run n d)) depth))) some

-- the same of how many are left
pub none_found : (cpu : ℕ) (run : List Event) (left depth : ℕ) (d : Event) → 0 < left → left - 1 < length run → found (turn_of cpu left (get_or run (left - 1) d)) depth ≡ None
    → frame_under cpu run left depth ≡ frame_under cpu run (left - 1) (depth_before (turn_of cpu left (get_or run (left - 1) d)) depth)
none_found cpu run zero depth d some less none = absurd (omega (arith, some))
none_found cpu run (suc n) depth d some less none =
    let one : suc n - 1 ≡ n = omega arith in
    subst (λ k. frame_under cpu run (suc n) depth ≡ frame_under cpu run k (depth_before (turn_of cpu (suc n) (get_or run k d)) depth)) (sym one)
    (none_by cpu run n depth d (subst (λ k. k < length run) one less) (subst (λ k. found (turn_of cpu (suc n) (get_or run k d)) depth ≡ None) one none))

pub some_found : (cpu : ℕ) (run : List Event) (left depth f : ℕ) (d : Event) → 0 < left → left - 1 < length run → found (turn_of cpu left (get_or run (left - 1) d)) depth ≡ Some f
    → frame_under cpu run left depth ≡ Some f
some_found cpu run zero depth f d some less is = absurd (omega (arith, some))
some_found cpu run (suc n) depth f d some less is =
    let one : suc n - 1 ≡ n = omega arith in
    some_by cpu run n depth f d (subst (λ k. k < length run) one less) (subst (λ k. found (turn_of cpu (suc n) (get_or run k d)) depth ≡ Some f) one is)

-- ---- as the search has it

pub goes_on : (cpu : ℕ) (run : List Event) (left depth next : ℕ) (turn : Turn) (d : Event) (r target : Option ℕ) → 0 < left → left - 1 < length run → turn ≡ turn_of cpu left (get_or run (left - 1) d)
    → r ≡ found turn depth → r ≡ None → next ≡ depth_before turn depth → frame_under cpu run left depth ≡ target → frame_under cpu run (left - 1) next ≡ target
goes_on cpu run left depth next turn d r target some less is found_is none next_is before =
    let nothing : found (turn_of cpu left (get_or run (left - 1) d)) depth ≡ None = ap (λ t. found t depth) (sym is) ∙ sym found_is ∙ none in
    ap (frame_under cpu run (left - 1)) (next_is ∙ ap (λ t. depth_before t depth) is) ∙ sym (none_found cpu run left depth d some less nothing) ∙ before

pub comes_to : (cpu : ℕ) (run : List Event) (left depth frame : ℕ) (turn : Turn) (d : Event) (r target : Option ℕ) → 0 < left → left - 1 < length run → turn ≡ turn_of cpu left (get_or run (left - 1) d)
    → r ≡ found turn depth → r ≡ Some frame → frame_under cpu run left depth ≡ target → Some frame ≡ target
comes_to cpu run left depth frame turn d r target some less is found_is there before =
    let here : found (turn_of cpu left (get_or run (left - 1) d)) depth ≡ Some frame = ap (λ t. found t depth) (sym is) ∙ sym found_is ∙ there in
    sym (some_found cpu run left depth frame d some less here) ∙ before
