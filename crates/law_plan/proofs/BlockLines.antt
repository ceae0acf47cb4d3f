-- The posts that are in the block of a line are those of the lines up to the block's end.
use Rattle.std.proofs.Common.{◌≡◌, ℕ, zero, suc, ◌+◌, ◌<◌, ◌≤◌, Bool, true, false, cond, List, [], ◌∷◌, ◌++◌, length, drop, map, Option, Some, None, slice_get, refl, ap, sym, subst, ◌∙◌, arith}
use Rattle.std.proofs.lemmas.Bool.{ne_eqb, eq-eqb}
use Rattle.std.specs.List.{filter_map, cons_option}
use Rattle.wdf_scene.specs.declared.block.Block.{Block}
use Rattle.wdf_scene.specs.declared.block.Block.TheVariants as block
use Rattle.wdf_scene.specs.declared.line.NumberedLine.{NumberedLine}
use Rattle.wdf_scene.specs.declared.line.SceneLine.{SceneLine}
use Rattle.wdf_scene.specs.declared.line.SceneLine.TheVariants as line
use Rattle.wdf_scene.specs.declared.scene.Scene.{Scene}
use Rattle.wdf_scene.specs.Blocks.{Position, may_stand, innermost, in_app, in_device, in_callback, opened}
use Rattle.wdf_scene.specs.Written.{IsScene}
use Rattle.wdf_blocks.specs.declared.placed.Counts.{Counts}
use Rattle.wdf_blocks.specs.declared.placed.Placed.{Placed}
use Rattle.wdf_blocks.specs.declared.placed.Stand.{Stand}
use Rattle.wdf_blocks.specs.Blocks.{depth_after, ends_block}
use Rattle.wdf_blocks.specs.Forms.{is_end}
use Rattle.wdf_plan.specs.Parts.{stands_in}
use Rattle.wdf_blocks.specs.Placed.{opened_by, counted, placed_line, placed_from, placed, outside, nothing}
use Rattle.wdf_refusals.proofs.Every.{Every, every_map}
use Rattle.wdf_plan.proofs.Inside.{block_told, split, after_opener}
use Rattle.wdf_plan.proofs.Stacking.{IsPassed, passed, every_passed}
use Rattle.wdf_plan.proofs.Stacks.{Opener, block_of, stand_of, with_block, stack_after, AreBefore, IsStacked, AreStacked, AreFitting, fitting, opens_in, none_open, device_open}
use Rattle.law_plan.specs.Told.{is_app_post, is_device_post, kept_line, lines_that, until_end, block_lines}

-- ---- where a post is

-- one block is open, and no callback
pub record IsAlone (stack : List Opener) : Type 0 where
  pub block : Block
  pub line : ℕ
  pub is : stack ≡ record { block = block; line = line } ∷ []
  pub quiet : in_callback (Some block) ≡ false

-- lines with these forms are directly in a block
abbrev pub AreAlone : (SceneLine → Bool) → Type 0
AreAlone test = (whole : List Placed) (stack : List Opener) (p : Placed) → IsStacked whole stack p → test p.form ≡ true → IsAlone stack

app_open : (xs : List Opener) → AreFitting xs → in_app (innermost (map block_of xs)) ≡ true → IsAlone xs
app_open [] f e = absurd (let z : ⊥ = cc in z)
app_open (x ∷ xs) f e = by_block x.block x.line xs f.0 e
  where
    by_block : (b : Block) (l : ℕ) (ys : List Opener) → opens_in b (innermost (map block_of ys)) ≡ true → in_app (Some b) ≡ true → IsAlone (record { block = b; line = l } ∷ ys)
    by_block block.App l ys g e = record { block = block.App; line = l; is = ap (λ zs. record { block = block.App; line = l } ∷ zs) (none_open ys g); quiet = refl }
    by_block _ l ys g e = absurd (let z : ⊥ = cc in z)

app_stands : (q : Position) (form : SceneLine) → is_app_post form ≡ true → may_stand q form ≡ true → in_app (innermost q.blocks) ≡ true
app_stands q (line.AtRead tick d n) t m = m
app_stands q (line.AtWrite tick d n) t m = m
app_stands q (line.AtControl tick d code n) t m = m
app_stands q (line.AtCancel tick k) t m = m
app_stands q _ t m = absurd (let z : ⊥ = cc in z)

device_stands : (q : Position) (form : SceneLine) → is_device_post form ≡ true → may_stand q form ≡ true → in_device (innermost q.blocks) ≡ true
device_stands q (line.At tick a) t m = m
device_stands q _ t m = absurd (let z : ⊥ = cc in z)

pub apps_alone : AreAlone is_app_post
apps_alone whole stack p s t =
    app_open stack (fitting whole p.at stack s.before s.open') (rw (← s.blocks) (app_stands s.position p.form t s.may))

pub devices_alone : AreAlone is_device_post
devices_alone whole stack p s t =
    let d = device_open stack (fitting whole p.at stack s.before s.open') (rw (← s.blocks) (device_stands s.position p.form t s.may)) in
    record { block = block.Device; line = d.line; is = d.is; quiet = refl }

-- its block is the one that is open
alone_told : (whole : List Placed) (stack : List Opener) (p : Placed) → IsStacked whole stack p → (a : IsAlone stack) → p.stand.block ≡ Some a.line
alone_told whole stack p s a =
    let x : Opener = record { block = a.block; line = a.line } in
    ap (λ (o : Stand). o.block) s.stand ∙ (ap (λ xs. (stand_of xs).block) a.is ∙ block_told x [] a.quiet)

-- ---- one line

-- a line that passes and is in the block of line b
abbrev pub own_line : (SceneLine → Bool) → ℕ → Placed → Option NumberedLine
own_line test b p = cond (stands_in b p) (kept_line test p.number p.form) None

none_cond : (t : Bool) (o : Option NumberedLine) → o ≡ None → cond t o None ≡ None
none_cond true o e = e
none_cond false o e = refl

no_line : (test : SceneLine → Bool) (b : ℕ) (p : Placed) → test p.form ≡ false → own_line test b p ≡ None
no_line test b p e = none_cond (stands_in b p) (kept_line test p.number p.form) (rw e refl)

its_line : (test : SceneLine → Bool) (b : ℕ) (p : Placed) → p.stand.block ≡ Some b → own_line test b p ≡ kept_line test p.number p.form
its_line test b p e = rw (e, eq-eqb b b refl) refl

other_line : (test : SceneLine → Bool) (b j : ℕ) (p : Placed) → p.stand.block ≡ Some j → (j ≡ b → ⊥) → own_line test b p ≡ None
other_line test b j p e f = rw (e, ne_eqb j b f) refl

-- no open block was opened by line b
abbrev HasNot : ℕ → List Opener → Type 0
HasNot b xs = Every (λ y. y.line ≡ b → ⊥) xs

not_step : (test : SceneLine → Bool) → AreAlone test → (whole : List Placed) (stack : List Opener) (b : ℕ) (p : Placed) → IsStacked whole stack p → HasNot b stack → (t : Bool) → test p.form ≡ t → own_line test b p ≡ None
not_step test alone whole stack b p s n false e = no_line test b p e
not_step test alone whole stack b p s n true e =
    let a = alone whole stack p s e in
    let one : HasNot b (record { block = a.block; line = a.line } ∷ []) = subst (HasNot b) a.is n in
    other_line test b a.line p (alone_told whole stack p s a) one.0

-- where that block isn't open no line is in it
not_there : (test : SceneLine → Bool) → AreAlone test → (whole : List Placed) (stack : List Opener) (b : ℕ) (p : Placed) → IsStacked whole stack p → HasNot b stack → own_line test b p ≡ None
not_there test alone whole stack b p s n = not_step test alone whole stack b p s n (test p.form) refl

single : (inner : List Opener) (x y : Opener) (outer : List Opener) → inner ++ x ∷ outer ≡ y ∷ [] → x ≡ y
single [] x y outer e = cc
single (z ∷ []) x y outer e = absurd (let w : ⊥ = cc in w)
single (z ∷ v ∷ vs) x y outer e = absurd (let w : ⊥ = cc in w)

inside_step : (test : SceneLine → Bool) → AreAlone test → (whole : List Placed) (inner : List Opener) (x : Opener) (outer : List Opener) (b : ℕ) (p : Placed) → IsStacked whole (inner ++ x ∷ outer) p → x.line ≡ b → (t : Bool) → test p.form ≡ t → own_line test b p ≡ kept_line test p.number p.form
inside_step test alone whole inner x outer b p s own false e = no_line test b p e ∙ rw e refl
inside_step test alone whole inner x outer b p s own true e =
    let a = alone whole (inner ++ x ∷ outer) p s e in
    let same : x ≡ record { block = a.block; line = a.line } = single inner x _ outer a.is in
    let line' : a.line ≡ b = sym (ap (λ (y : Opener). y.line) same) ∙ own in
    its_line test b p (alone_told whole (inner ++ x ∷ outer) p s a ∙ ap (λ n. Some n) line')

-- ---- after the block

not_after : (b : ℕ) (stack : List Opener) (k : ℕ) (form : SceneLine) → b < k → HasNot b stack → HasNot b (stack_after stack k form)
not_after b [] k line.End h n = tt
not_after b (x ∷ xs) k line.End h n = n.1
not_after b [] k line.Else h n = tt
not_after b (x ∷ xs) k line.Else h n = (n.0, n.1)
not_after b stack k form h n = with_block_not (opened form)
  where
    with_block_not : (t : Option Block) → HasNot b (with_block stack k t)
    with_block_not None = n
    with_block_not (Some c) = (λ e. absurd (omega (arith, e)), n)

none_after : (test : SceneLine → Bool) → AreAlone test → (whole : List Placed) (stack : List Opener) (b k : ℕ) (o : Stand) (c : Counts) (ls : List NumberedLine) → b < k → HasNot b stack → AreStacked whole k o c stack ls → filter_map (own_line test b) (placed_from k o c ls) ≡ []
unfolding placed_from
none_after test alone whole stack b k o c [] less n s = refl
none_after test alone whole stack b k o c (l ∷ ls) less n s =
    rw (not_there test alone whole stack b (placed_line k o c l) s.0 n) (none_after test alone whole (stack_after stack k l.form) b (suc k) (opened_by o k l.form) (counted c l.form (length l.picks)) ls (omega arith) (not_after b stack k l.form less n) s.1)

-- ---- in the block

end_form : (d : ℕ) (form : SceneLine) → ends_block d form ≡ true → form ≡ line.End
unfolding is_end
end_form zero line.End e = refl
end_form zero _ e = absurd (let z : ⊥ = cc in z)
end_form (suc d) form e = absurd (let z : ⊥ = cc in z)

ended_stack : (inner : List Opener) (x : Opener) (outer : List Opener) (k : ℕ) (form : SceneLine) → ends_block (length inner) form ≡ true → stack_after (inner ++ x ∷ outer) k form ≡ outer
unfolding is_end
ended_stack [] x outer k line.End e = refl
ended_stack (y ∷ ys) x outer k form e = absurd (let z : ⊥ = cc in z)
ended_stack [] x outer k _ e = absurd (let z : ⊥ = cc in z)

ends_lines : (test : SceneLine → Bool) (d : ℕ) (l : NumberedLine) (ls : List NumberedLine) → ends_block d l.form ≡ true → lines_that test (until_end d (l ∷ ls)) ≡ []
unfolding until_end
ends_lines test d l ls e = rw e refl

goes_lines : (test : SceneLine → Bool) (d : ℕ) (l : NumberedLine) (ls : List NumberedLine) → ends_block d l.form ≡ false → lines_that test (until_end d (l ∷ ls)) ≡ cons_option (kept_line test l.number l.form) (lines_that test (until_end (depth_after d l.form) ls))
unfolding until_end
goes_lines test d l ls e = rw e refl

nothing_in : (test : SceneLine → Bool) (d : ℕ) → lines_that test (until_end d []) ≡ []
unfolding until_end
nothing_in test d = refl

in_block : (test : SceneLine → Bool) → AreAlone test → test line.End ≡ false → (whole : List Placed) (b : ℕ) (inner : List Opener) (x : Opener) (outer : List Opener) (k : ℕ) (o : Stand) (c : Counts) (ls : List NumberedLine) → x.line ≡ b → b < k → HasNot b outer → AreStacked whole k o c (inner ++ x ∷ outer) ls → filter_map (own_line test b) (placed_from k o c ls) ≡ lines_that test (until_end (length inner) ls)
unfolding placed_from
in_block test alone no_end whole b inner x outer k o c [] own less n s = sym (nothing_in test (length inner))
in_block test alone no_end whole b inner x outer k o c (l ∷ ls) own less n s = by_end (ends_block (length inner) l.form) refl (λ t.
    let v = split inner x outer k l.form t in
    rw v.depth (in_block test alone no_end whole b v.within v.own outer (suc k) (opened_by o k l.form) (counted c l.form (length l.picks)) ls (v.line ∙ own) (omega arith) n (rw v.is at s.1)))
  where
    by_end : (t : Bool) → ends_block (length inner) l.form ≡ t → (ends_block (length inner) l.form ≡ false → filter_map (own_line test b) (placed_from (suc k) (opened_by o k l.form) (counted c l.form (length l.picks)) ls) ≡ lines_that test (until_end (depth_after (length inner) l.form) ls)) → cons_option (own_line test b (placed_line k o c l)) (filter_map (own_line test b) (placed_from (suc k) (opened_by o k l.form) (counted c l.form (length l.picks)) ls)) ≡ lines_that test (until_end (length inner) (l ∷ ls))
    by_end true e later =
        let quiet : test l.form ≡ false = ap test (end_form (length inner) l.form e) ∙ no_end in
        rw (no_line test b (placed_line k o c l) quiet, none_after test alone whole outer b (suc k) (opened_by o k l.form) (counted c l.form (length l.picks)) ls (omega arith) n (rw (ended_stack inner x outer k l.form e) at s.1)) (sym (ends_lines test (length inner) l ls e))
    by_end false e later =
        rw (inside_step test alone whole inner x outer b (placed_line k o c l) s.0 own (test l.form) refl, later e) (sym (goes_lines test (length inner) l ls e))

-- ---- before it

-- a line that passes is in a block that was opened before
abbrev IsLater : (SceneLine → Bool) → ℕ → Placed → Type 0
IsLater test b p = p.at ≤ b → own_line test b p ≡ None

before_all : (b k : ℕ) (xs : List Opener) → k ≤ b → AreBefore k xs → HasNot b xs
before_all b k [] h n = tt
before_all b k (x ∷ xs) h n =
    let below : x.line < k = n.0 in
    (λ e. absurd (omega (arith, e)), before_all b x.line xs (omega arith) n.1)

all_later : (test : SceneLine → Bool) → AreAlone test → (scene : Scene) → IsScene scene → (b : ℕ) → Every (IsLater test b) (placed scene)
all_later test alone scene s b =
    every_map (λ p. (slice_get (placed scene) p.at ≡ Some p) × IsPassed scene p.at p) (IsLater test b) (λ p h less. not_there test alone (placed scene) h.1.stack b p h.1.stacked (before_all b p.at h.1.stack less h.1.stacked.before)) (placed scene) (every_passed scene s)

from_after : (test : SceneLine → Bool) (b n k : ℕ) (o : Stand) (c : Counts) (ls : List NumberedLine) → k + n ≡ suc b → Every (IsLater test b) (placed_from k o c ls) → filter_map (own_line test b) (placed_from k o c ls) ≡ filter_map (own_line test b) (drop n (placed_from k o c ls))
unfolding placed_from
from_after test b zero k o c ls e h = refl
from_after test b (suc n) k o c [] e h = refl
from_after test b (suc n) k o c (l ∷ ls) e h =
    rw (h.0 (omega (arith, e))) (from_after test b n (suc k) (opened_by o k l.form) (counted c l.form (length l.picks)) ls (omega (arith, e)) h.1)

whole_after : (test : SceneLine → Bool) → AreAlone test → (scene : Scene) → IsScene scene → (b : ℕ) → filter_map (own_line test b) (placed scene) ≡ filter_map (own_line test b) (drop (suc b) (placed scene))
unfolding placed
whole_after test alone scene s b =
    from_after test b (suc b) 0 outside nothing scene.lines (omega arith) (all_later test alone scene s b)

-- what passes in the block of a line
pub in_block_of : (test : SceneLine → Bool) → AreAlone test → test line.End ≡ false → (scene : Scene) → IsScene scene → (p : Placed) (blk : Block) → slice_get (placed scene) p.at ≡ Some p → opened p.form ≡ Some blk → filter_map (own_line test p.at) (placed scene) ≡ lines_that test (block_lines scene p.at)
in_block_of test alone no_end scene s p blk there opens' =
    let i = passed scene s p.at p there in
    let b = p.at in
    let not : HasNot b i.stack = before_all b b i.stack (omega arith) i.stacked.before in
    whole_after test alone scene s b
    ∙ (ap (filter_map (own_line test b)) i.behind
    ∙ in_block test alone no_end (placed scene) b [] (record { block = blk; line = b }) i.stack (suc b) (opened_by p.stand b p.form) (counted p.counts p.form (length i.line.picks)) (drop (suc b) scene.lines) refl (omega arith) not (rw (after_opener i.stack b p.form blk opens') at i.rest))
