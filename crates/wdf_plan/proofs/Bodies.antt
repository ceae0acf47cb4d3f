-- After the line that begins a callback come the callback's lines, with its end among them.
use Rattle.std.proofs.Common.{◌≡◌, ◌⊎◌, inl, inr, ℕ, zero, suc, ◌-◌, Bool, true, false, not, nat_lt, List, [], ◌∷◌, map, drop, length, Option, Some, None, refl, ap, ◌∙◌, arith}
use Rattle.std.specs.Prelude.{◌==◌, IsTrue}
use Rattle.std.specs.List.{prefix_len}
use Rattle.std.specs.Option.{is_none}
use Rattle.std.proofs.lemmas.Bool.{and_parts, lt-ltb}
use Rattle.std.proofs.lemmas.List.Folds.{length-prefix_len}
use Rattle.wdf_base.specs.declared.call.Callback.{Callback}
use Rattle.wdf_scene.specs.declared.block.Block.{Block}
use Rattle.wdf_scene.specs.declared.block.Block.TheVariants as block
use Rattle.wdf_scene.specs.declared.line.NumberedLine.{NumberedLine}
use Rattle.wdf_scene.specs.declared.line.SceneLine.{SceneLine}
use Rattle.wdf_scene.specs.declared.line.SceneLine.TheVariants as line
use Rattle.wdf_scene.specs.declared.scene.Scene.{Scene}
use Rattle.wdf_scene.specs.Blocks.{Position, front, moved, is_outside, innermost, in_owner, in_branch, in_callback, in_device, in_if, has_level, nesting, may_nest, blocks_after, may_stand}
use Rattle.wdf_scene.specs.Written.{IsScene, lines_at}
use Rattle.wdf_blocks.specs.declared.placed.Counts.{Counts}
use Rattle.wdf_blocks.specs.declared.placed.Placed.{Placed}
use Rattle.wdf_blocks.specs.declared.placed.Stand.{Stand}
use Rattle.wdf_blocks.specs.Blocks.{depth_after, ends_block}
use Rattle.wdf_blocks.specs.Forms.{opens, is_end}
use Rattle.wdf_blocks.specs.Placed.{outside, nothing, counted, opened_by, placed_from, placed}
use Rattle.wdf_refusals.proofs.Every.{Every}
use Rattle.wdf_refusals.proofs.Heads.{form_of, Ends, stood}
use Rattle.wdf_plan.proofs.Nesting.{stands_inside, IsBody}

-- ---- in a callback

-- these blocks are open, innermost first: so many of a callback's, and the callback
abbrev IsInside : ℕ → List Block → Type 0
IsInside d [] = ⊥
IsInside zero (b ∷ bs) = b ≡ block.On
IsInside (suc d) (b ∷ bs) = (in_branch (Some b) ≡ true) × IsInside d bs

branch_in_callback : (b : Block) → in_branch (Some b) ≡ true → in_callback (Some b) ≡ true
branch_in_callback block.If e = refl
branch_in_callback block.Else e = refl
branch_in_callback block.Repeat e = refl
branch_in_callback _ e = absurd (let z : ⊥ = cc in z)

inside_callback : (d : ℕ) (bs : List Block) → IsInside d bs → in_callback (innermost bs) ≡ true
inside_callback d [] h = absurd h
inside_callback zero (b ∷ bs) h = rw h refl
inside_callback (suc d) (b ∷ bs) h = branch_in_callback b h.0

prefix_is : (d : ℕ) (bs : List Block) → IsInside d bs → prefix_len (λ b. in_branch (Some b)) bs ≡ d
prefix_is d [] h = absurd h
prefix_is zero (b ∷ bs) h = rw h refl
prefix_is (suc d) (b ∷ bs) h =
    let rest = prefix_is d bs h.1 in
    rw h.0 (omega arith)

nesting_is : (d : ℕ) (bs : List Block) → IsInside d bs → nesting bs ≡ d
nesting_is d bs h = length-prefix_len (λ b. in_branch (Some b)) bs ∙ prefix_is d bs h

no_device : (b : Option Block) → in_callback b ≡ true → in_device b ≡ true → ⊥
no_device None e f = cc
no_device (Some block.Device) e f = cc
no_device (Some _) e f = cc

no_owner : (b : Option Block) → in_callback b ≡ true → in_owner b ≡ true → ⊥
no_owner None e f = cc
no_owner (Some block.Class) e f = cc
no_owner (Some block.Device) e f = cc
no_owner (Some block.Interrupt) e f = cc
no_owner (Some block.Queue) e f = cc
no_owner (Some block.Target) e f = cc
no_owner (Some _) e f = cc

not_outside : (q : Position) → in_callback (innermost q.blocks) ≡ true → is_outside q ≡ true → ⊥
not_outside q e f = by_block (innermost q.blocks) e (and_parts (q.headers == 3) (is_none (innermost q.blocks)) f).1
  where
    by_block : (b : Option Block) → in_callback b ≡ true → is_none b ≡ true → ⊥
    by_block None e f = cc
    by_block (Some b) e f = cc

-- ---- one line of a callback

-- the line ends the callback, or may be in it
abbrev IsBodyLine : ℕ → SceneLine → List Block → Type 0
IsBodyLine d form behind =
    (ends_block d form ≡ true) ⊎ ((ends_block d form ≡ false) × (stands_inside d form ≡ true) × IsInside (depth_after d form) behind)

goes_on : (d : ℕ) (form : SceneLine) → is_end form ≡ false → ends_block d form ≡ false
goes_on zero form e = e
goes_on (suc d) form e = refl

end_line : (d : ℕ) (bs : List Block) → IsInside d bs → IsBodyLine d line.End (drop 1 bs)
unfolding is_end opens
end_line d [] h = absurd h
end_line zero (b ∷ bs) h = inl refl
end_line (suc d) (b ∷ bs) h =
    let less : suc d - 1 ≡ d = omega arith in
    inr (refl, refl, rw less h.1)

else_line : (d : ℕ) (bs : List Block) → IsInside d bs → in_if (innermost bs) ≡ true → IsBodyLine d line.Else (block.Else ∷ drop 1 bs)
unfolding is_end opens
else_line d [] h e = absurd h
else_line zero (b ∷ bs) h e = let i : in_if (Some block.On) ≡ true = rw h at e in absurd (let z : ⊥ = cc in z)
else_line (suc d) (b ∷ bs) h e = inr (refl, lt-ltb 0 (suc d) (omega arith), (refl, h.1))

nest_line : (d : ℕ) (bs : List Block) → IsInside d bs → may_nest bs ≡ true → nat_lt d 16 ≡ true
nest_line d bs h e =
    rw (← nesting_is d bs h) (and_parts (in_callback (innermost bs)) (nat_lt (nesting bs) 16) e).1

body_line : (d : ℕ) (q : Position) (form : SceneLine) → IsInside d q.blocks → may_stand q form ≡ true → IsBodyLine d form (blocks_after q.blocks form)
unfolding is_end opens
body_line d q line.End h e = end_line d q.blocks h
body_line d q line.Else h e = else_line d q.blocks h e
body_line d q (line.If x) h e =
    inr (goes_on d (line.If x) refl, nest_line d q.blocks h e, (refl, h))
body_line d q (line.Repeat x) h e =
    inr (goes_on d (line.Repeat x) refl, nest_line d q.blocks h e, (refl, h))
body_line d q line.Driver h e =
    absurd (not_outside q (inside_callback d q.blocks h) (and_parts (is_outside q) (not q.driver) e).0)
body_line d q (line.Class n k) h e = absurd (not_outside q (inside_callback d q.blocks h) e)
body_line d q (line.DeferredClass n k parent) h e = absurd (not_outside q (inside_callback d q.blocks h) e)
body_line d q (line.Device n working) h e = absurd (not_outside q (inside_callback d q.blocks h) e)
body_line d q (line.App n) h e = absurd (not_outside q (inside_callback d q.blocks h) e)
body_line d q line.Pnp h e =
    absurd (not_outside q (inside_callback d q.blocks h) (and_parts (is_outside q) (not q.pnp) e).0)
body_line d q line.Order h e =
    absurd (not_outside q (inside_callback d q.blocks h) (and_parts (is_outside q) (not q.order) e).0)
body_line d q (line.Interrupt n l) h e =
    absurd (no_device (innermost q.blocks) (inside_callback d q.blocks h) (and_parts (in_device (innermost q.blocks)) (has_level q.version l) e).0)
body_line d q (line.Queue n dispatch) h e = absurd (no_device (innermost q.blocks) (inside_callback d q.blocks h) e)
body_line d q (line.Target n delay status depth) h e = absurd (no_device (innermost q.blocks) (inside_callback d q.blocks h) e)
body_line d q (line.On callback) h e = absurd (no_owner (innermost q.blocks) (inside_callback d q.blocks h) e)
body_line d q form h e = inr (goes_on d form refl, refl, h)

-- ---- the lines of a callback

joined : (d : ℕ) (l : NumberedLine) (behind : List Block) (ls : List NumberedLine) → IsBodyLine d l.form behind → (IsInside (depth_after d l.form) behind → IsBody (depth_after d l.form) ls) → IsBody d (l ∷ ls)
joined d l behind ls (inl e) f = inl e
joined d l behind ls (inr h) f = inr (h.0, h.1, f h.2)

body_from : (d : ℕ) (q : Position) (ls : List NumberedLine) → IsInside d q.blocks → Ends q (map form_of ls) → IsBody d ls
body_from d q [] h ends = not_outside q (inside_callback d q.blocks h) (truth (is_outside q) ends)
  where
    truth : (b : Bool) → IsTrue b → b ≡ true
    truth b h = h
body_from d q (l ∷ ls) h ends =
    let st = stood q l.form (map form_of ls) (may_stand q l.form) refl ends in
    joined d l (blocks_after q.blocks l.form) ls (body_line d q l.form h st.0) (λ inside. body_from (depth_after d l.form) (moved q l.form) ls inside st.1)

-- ---- the callbacks of a scene

-- what a line begins that begins a callback
abbrev pub HasBody : Scene → Placed → Type 0
HasBody scene p = (c : Callback) → p.form ≡ line.On c → IsBody 0 (drop (suc p.at) scene.lines)

drop_next : (xs : List NumberedLine) (k : ℕ) (y : NumberedLine) (ys : List NumberedLine) → drop k xs ≡ y ∷ ys → drop (suc k) xs ≡ ys
drop_next [] zero y ys e = absurd (let z : ⊥ = cc in z)
drop_next [] (suc k) y ys e = absurd (let z : ⊥ = cc in z)
drop_next (x ∷ xs) zero y ys e = ap (λ zs. drop 1 zs) e
drop_next (x ∷ xs) (suc k) y ys e = drop_next xs k y ys e

begun_body : (q : Position) (form : SceneLine) (c : Callback) (ls : List NumberedLine) → form ≡ line.On c → Ends (moved q form) (map form_of ls) → IsBody 0 ls
begun_body q form c ls e ends =
    let on : Ends (moved q (line.On c)) (map form_of ls) = rw e at ends in
    body_from 0 (moved q (line.On c)) ls refl on

bodies_from : (scene : Scene) (k : ℕ) (o : Stand) (c : Counts) (q : Position) (ls : List NumberedLine) → drop k scene.lines ≡ ls → Ends q (map form_of ls) → Every (HasBody scene) (placed_from k o c ls)
unfolding placed_from
bodies_from scene k o c q [] e ends = tt
bodies_from scene k o c q (l ∷ ls) e ends =
    let st = stood q l.form (map form_of ls) (may_stand q l.form) refl ends in
    let next = drop_next scene.lines k l ls e in
    (λ callback is. rw next (begun_body q l.form callback ls is st.1), bodies_from scene (suc k) (opened_by o k l.form) (counted c l.form (length l.picks)) (moved q l.form) ls next st.1)

pub every_body : (scene : Scene) → IsScene scene → Every (HasBody scene) (placed scene)
unfolding placed
every_body scene s =
    let lines : scene.lines ≡ lines_at 0 s.ws = ap (λ (x : Scene). x.lines) s.is in
    let whole : Ends (front scene.version) (map form_of scene.lines) = rw lines s.lines.whole in
    bodies_from scene 0 outside nothing (front scene.version) scene.lines refl whole
