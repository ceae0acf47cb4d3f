-- All frames by places.
use Rattle.std.proofs.Common.{◌≡◌, ℕ, ◌+◌, ◌-◌, ◌<◌, ◌≤◌, List, ◌∷◌, ◌++◌, length, get_or, drop, ap, sym, ◌∙◌, arith, length-append, append_assoc}
use Rattle.std.specs.List.{flat_map, slice_get}
use Rattle.std.proofs.lemmas.List.{drop_more}
use Rattle.wdf_model.proofs.Runs.{slice_get-append-left, slice_get-append-right}

abbrev pub stacked : List (List ℕ) → List ℕ
stacked ss = flat_map (λ fs. fs) ss

-- what is left from a processor on: its frames, and what is left from the next one on
left_from : (ss : List (List ℕ)) (parked : List ℕ) (cpu : ℕ) (fs : List ℕ) → cpu < length ss → fs ≡ get_or ss cpu fs
    → stacked (drop cpu ss) ++ parked ≡ fs ++ (stacked (drop (cpu + 1) ss) ++ parked)
left_from ss parked cpu fs within read =
    ap (λ rest. stacked rest ++ parked) (drop_more ss cpu fs within)
    ∙ ap (λ gs. stacked (gs ∷ drop (cpu + 1) ss) ++ parked) (sym read)
    ∙ append_assoc fs (stacked (drop (cpu + 1) ss)) parked

pub in_this : (ss : List (List ℕ)) (parked : List ℕ) (cpu : ℕ) (fs : List ℕ) (left : ℕ) → cpu < length ss → fs ≡ get_or ss cpu fs → left < length fs
    → slice_get (stacked (drop cpu ss) ++ parked) left ≡ slice_get fs left
in_this ss parked cpu fs left within read here =
    ap (λ xs. slice_get xs left) (left_from ss parked cpu fs within read) ∙ slice_get-append-left fs (stacked (drop (cpu + 1) ss) ++ parked) left here

pub in_rest : (ss : List (List ℕ)) (parked : List ℕ) (cpu : ℕ) (fs : List ℕ) (left : ℕ) → cpu < length ss → fs ≡ get_or ss cpu fs → length fs ≤ left
    → slice_get (stacked (drop cpu ss) ++ parked) left ≡ slice_get (stacked (drop (cpu + 1) ss) ++ parked) (left - length fs)
in_rest ss parked cpu fs left within read past =
    let e : left ≡ length fs + (left - length fs) = omega arith in
    ap (λ xs. slice_get xs left) (left_from ss parked cpu fs within read)
    ∙ ap (slice_get (fs ++ (stacked (drop (cpu + 1) ss) ++ parked))) e
    ∙ slice_get-append-right fs (stacked (drop (cpu + 1) ss) ++ parked) (left - length fs)

pub rest_within : (ss : List (List ℕ)) (parked : List ℕ) (cpu : ℕ) (fs : List ℕ) (left : ℕ) → cpu < length ss → fs ≡ get_or ss cpu fs → length fs ≤ left
    → left < length (stacked (drop cpu ss) ++ parked) → left - length fs < length (stacked (drop (cpu + 1) ss) ++ parked)
rest_within ss parked cpu fs left within read past h =
    let e = ap length (left_from ss parked cpu fs within read) in
    let l = length-append fs (stacked (drop (cpu + 1) ss) ++ parked) in
    omega arith
