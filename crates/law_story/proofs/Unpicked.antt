-- Only lines of an `order` block pick.
use Rattle.std.proofs.Common.{◌≡◌, ℕ, ◌+◌, Bool, true, false, List, [], ◌∷◌, ◌++◌, map, drop, flat_map, refl, ap, ◌∙◌}
use Rattle.wdf_scene.specs.declared.block.Block.{Block}
use Rattle.wdf_scene.specs.declared.block.Block.TheVariants as block
use Rattle.wdf_scene.specs.declared.line.SceneLine.{SceneLine}
use Rattle.wdf_scene.specs.declared.line.SceneLine.TheVariants as line
use Rattle.wdf_scene.specs.Blocks.{Position, blocks_after, in_order, innermost, may_stand, moved}
use Rattle.wdf_scene.specs.Written.{Written, Picked, WrittenLine, line_at, lines_at, picks_in, written_size}
use Rattle.wdf_refusals.specs.Numbered.{Every}
use Rattle.wdf_refusals.proofs.Heads.{Ends, form_of, stood}
use Rattle.wdf_plan.specs.Parts.{line_picks}
use Rattle.law_order.proofs.Bodies.{begins_order}
use Rattle.law_story.proofs.Split.{IsOtherLine, order_anywhere}

-- no open block is an `order` block
abbrev is_order_block : Block → Bool
is_order_block block.Order = true
is_order_block _ = false

abbrev pub NoneOpen : List Block → Type 0
NoneOpen [] = Unit {0}
NoneOpen (b ∷ bs) = (is_order_block b ≡ false) × NoneOpen bs

rest_open : (bs : List Block) → NoneOpen bs → NoneOpen (drop 1 bs)
rest_open [] h = tt
rest_open (b ∷ bs) h = h.1

-- nor after a line that begins none
still_open : (bs : List Block) (form : SceneLine) → begins_order form ≡ false → NoneOpen bs → NoneOpen (blocks_after bs form)
still_open bs line.Order e h = absurd (let z : ⊥ = cc in z)
still_open bs line.End e h = rest_open bs h
still_open bs line.Else e h = (refl, rest_open bs h)
still_open bs line.Driver e h = (refl, h)
still_open bs (line.Class n k) e h = (refl, h)
still_open bs (line.DeferredClass n k parent) e h = (refl, h)
still_open bs (line.Device n working) e h = (refl, h)
still_open bs (line.Interrupt n l) e h = (refl, h)
still_open bs (line.Queue n dispatch) e h = (refl, h)
still_open bs (line.Target n delay status depth) e h = (refl, h)
still_open bs (line.App n) e h = (refl, h)
still_open bs line.Pnp e h = (refl, h)
still_open bs (line.On callback) e h = (refl, h)
still_open bs (line.If x) e h = (refl, h)
still_open bs (line.Repeat x) e h = (refl, h)
still_open bs _ e h = h

-- so `picks` may not come there
not_there : (bs : List Block) → NoneOpen bs → in_order (innermost bs) ≡ true → ⊥
not_there [] h e = let z : ⊥ = cc in z
not_there (block.Order ∷ bs) h e = let f : true ≡ false = h.0 in let z : ⊥ = cc in z
not_there (_ ∷ bs) h e = let z : ⊥ = cc in z

no_picks : (w : Written) (q : Position) (base : ℕ) → NoneOpen q.blocks → may_stand q (line_at base w) ≡ true → picks_in w ≡ []
no_picks (Picked ns) q base h may = absurd (not_there q.blocks h may)
no_picks _ q base h may = refl

-- the lines from one on, up to others, pick nothing
pub unpicked : (q : Position) (base : ℕ) (ws : List WrittenLine) (rest : List SceneLine) → Every IsOtherLine ws → NoneOpen q.blocks → Ends q (map form_of (lines_at base ws) ++ rest) → flat_map line_picks (lines_at base ws) ≡ []
unpicked q base [] rest others h ends = refl
unpicked q base (w ∷ ws) rest others h ends =
    let form = line_at base w.written in
    let further = base + written_size w.written in
    let st = stood q form (map form_of (lines_at further ws) ++ rest) (may_stand q form) refl ends in
    ap (λ ns. ns ++ flat_map line_picks (lines_at further ws)) (no_picks w.written q base h st.0)
    ∙ unpicked (moved q form) further ws rest others.1 (still_open q.blocks form (order_anywhere base w.written ∙ others.0) h) st.1
