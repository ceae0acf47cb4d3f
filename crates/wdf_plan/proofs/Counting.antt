-- A list of a plan has at most as many items as the bound of its sort of lines.
use Rattle.std.proofs.Common.{◌≡◌, ℕ, suc, ◌+◌, ◌<◌, ◌≤◌, Bool, true, false, List, [], ◌∷◌, ◌++◌, length, Option, Some, None, refl, arith}
use Rattle.std.proofs.lemmas.Bool.{leb-false, ltb-false}
use Rattle.std.proofs.lemmas.List.{length-append}
use Rattle.std.specs.Option.{is_some}
use Rattle.std.specs.List.{filter_map, cons_option, flat_map}
use Rattle.wdf_scene.specs.declared.line.SceneLine.{SceneLine}
use Rattle.wdf_scene.specs.declared.line.NumberedLine.{NumberedLine}
use Rattle.wdf_blocks.specs.declared.placed.Counts.{Counts}
use Rattle.wdf_blocks.specs.declared.placed.Placed.{Placed}
use Rattle.wdf_blocks.specs.declared.placed.Stand.{Stand}
use Rattle.wdf_refusals.specs.Limits.{is_one_too_many, over_picks}
use Rattle.wdf_plan.specs.Parts.{line_picks}
use Rattle.wdf_blocks.specs.Placed.{one_more, counted, opened_by, placed_line, placed_from}
use Rattle.wdf_refusals.proofs.Every.{Every}

step : {X : Type 0} (o : Option X) (b : Bool) (n m bound : ℕ) (rest : List X) → is_some o ≡ b → m ≡ one_more n b → n ≤ bound → is_one_too_many b bound n ≡ false → (m ≤ bound → m + length rest ≤ bound) → n + length (cons_option o rest) ≤ bound
step None true n m bound rest is adds fits within later = absurd (let z : ⊥ = cc in z)
step (Some x) false n m bound rest is adds fits within later = absurd (let z : ⊥ = cc in z)
step None false n m bound rest is adds fits within later =
    let fits' : m ≤ bound = omega arith in
    let less : m + length rest ≤ bound = later fits' in
    omega arith
step (Some x) true n m bound rest is adds fits within later =
    let below : n < bound = leb-false bound n within in
    let fits' : m ≤ bound = omega arith in
    let less : m + length rest ≤ bound = later fits' in
    omega arith

-- where no line of a sort is one too many, what is gathered of these lines keeps the bound
pub bounded : {X : Type 0} (is : SceneLine → Bool) (count : Counts → ℕ) (g : Placed → Option X) (bound : ℕ) → ((c : Counts) (f : SceneLine) (n : ℕ) → count (counted c f n) ≡ one_more (count c) (is f)) → ((p : Placed) → is_some (g p) ≡ is p.form) → (k : ℕ) (o : Stand) (c : Counts) (ls : List NumberedLine) → count c ≤ bound → Every (λ p. is_one_too_many (is p.form) bound (count p.counts) ≡ false) (placed_from k o c ls) → count c + length (filter_map g (placed_from k o c ls)) ≤ bound
unfolding placed_from
bounded is count g bound adds tells k o c [] fits within = omega arith
bounded is count g bound adds tells k o c (l ∷ ls) fits within =
    step (g (placed_line k o c l)) (is l.form) (count c) (count (counted c l.form (length l.picks))) bound (filter_map g (placed_from (suc k) (opened_by o k l.form) (counted c l.form (length l.picks)) ls)) (tells (placed_line k o c l)) (adds c l.form (length l.picks)) fits within.0 (λ fits'. bounded is count g bound adds tells (suc k) (opened_by o k l.form) (counted c l.form (length l.picks)) ls fits' within.1)

pick_step : (n m bound : ℕ) (xs ys : List ℕ) → n + length xs ≤ bound → m ≡ n + length xs → (m ≤ bound → m + length ys ≤ bound) → n + length (xs ++ ys) ≤ bound
pick_step n m bound xs ys fits adds later =
    let fits' : m ≤ bound = omega arith in
    let less : m + length ys ≤ bound = later fits' in
    let both : length (xs ++ ys) ≡ length xs + length ys = length-append xs ys in
    omega arith

-- all picks together
pub picks_bounded : (k : ℕ) (o : Stand) (c : Counts) (ls : List NumberedLine) → c.picks ≤ 200000 → Every (λ p. over_picks p ≡ false) (placed_from k o c ls) → c.picks + length (flat_map line_picks ls) ≤ 200000
unfolding placed_from counted
picks_bounded k o c [] fits within = omega arith
picks_bounded k o c (l ∷ ls) fits within =
    pick_step c.picks (c.picks + length l.picks) 200000 l.picks (flat_map line_picks ls) (ltb-false 200000 (c.picks + length l.picks) within.0) refl (λ fits'. picks_bounded (suc k) (opened_by o k l.form) (counted c l.form (length l.picks)) ls fits' within.1)

-- where nothing was counted before, the items alone keep it
pub from_zero : (n m bound : ℕ) → n ≡ 0 → n + m ≤ bound → m ≤ bound
from_zero n m bound e h = omega arith
