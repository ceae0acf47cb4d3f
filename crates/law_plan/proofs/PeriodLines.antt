-- The period of a class is that of the first `period` line of its block.
use Rattle.std.proofs.Common.{◌≡◌, ◌⊎◌, inl, inr, ℕ, zero, suc, Bool, true, false, cond, List, [], ◌∷◌, ◌++◌, length, drop, map, Option, Some, None, slice_get, refl, ap, sym, ◌∙◌}
use Rattle.std.specs.Prelude.{option_and_then}
use Rattle.std.specs.Option.{unwrap_or}
use Rattle.wdf_scene.specs.declared.block.Block.{Block}
use Rattle.wdf_scene.specs.declared.block.Block.TheVariants as block
use Rattle.wdf_scene.specs.declared.line.NumberedLine.{NumberedLine}
use Rattle.wdf_scene.specs.declared.line.SceneLine.{SceneLine}
use Rattle.wdf_scene.specs.declared.line.SceneLine.TheVariants as line
use Rattle.wdf_scene.specs.declared.scene.Scene.{Scene}
use Rattle.wdf_scene.specs.Blocks.{Position, may_stand, innermost, in_class, opened}
use Rattle.wdf_scene.specs.Written.{IsScene}
use Rattle.wdf_blocks.specs.declared.attribute.Attribute.TheVariants as attribute
use Rattle.wdf_blocks.specs.declared.placed.Counts.{Counts}
use Rattle.wdf_blocks.specs.declared.placed.Placed.{Placed}
use Rattle.wdf_blocks.specs.declared.placed.Stand.{Stand}
use Rattle.wdf_blocks.specs.Attribute.{gives, is_device_wide}
use Rattle.wdf_blocks.specs.Blocks.{counts_for, depth_after, ends_block, given_from, given, form_at, ticks_in}
use Rattle.wdf_blocks.specs.Declarations.{declarations}
use Rattle.wdf_blocks.specs.Forms.{is_class, is_end}
use Rattle.wdf_plan.specs.Parts.{class_on, period_of}
use Rattle.wdf_blocks.specs.Placed.{opened_by, counted, placed_line, placed}
use Rattle.wdf_plan.specs.Plans.{plan_with, plan_of}
use Rattle.wdf_refusals.proofs.Every.{every_map}
use Rattle.wdf_plan.proofs.Inside.{split, after_opener}
use Rattle.wdf_plan.proofs.Stacking.{passed, every_there}
use Rattle.wdf_plan.proofs.Stacks.{Opener, block_of, IsStacked, AreStacked, AreFitting, fitting, opens_in, none_open}
use Rattle.law_plan.specs.Told.{until_end, block_lines, placed_that, Paired, period_told, IsPeriodTold}
use Rattle.law_plan.proofs.Pairs.{Both, paired}

-- ---- where a period is

-- a class's block is the only one that is open
abbrev IsOnly : List Opener → Type 0
IsOnly [] = ⊥
IsOnly (x ∷ xs) = xs ≡ []

class_open : (xs : List Opener) → AreFitting xs → in_class (innermost (map block_of xs)) ≡ true → IsOnly xs
class_open [] f e = let z : ⊥ = cc in z
class_open (x ∷ xs) f e = by_block x.block xs f.0 e
  where
    by_block : (b : Block) (ys : List Opener) → opens_in b (innermost (map block_of ys)) ≡ true → in_class (Some b) ≡ true → ys ≡ []
    by_block block.Class ys g e = none_open ys g
    by_block _ ys g e = absurd (let z : ⊥ = cc in z)

inner_none : (inner : List Opener) (x : Opener) (outer : List Opener) → IsOnly (inner ++ x ∷ outer) → length inner ≡ 0
inner_none [] x outer h = refl
inner_none (y ∷ []) x outer h = absurd (let z : ⊥ = cc in z)
inner_none (y ∷ z ∷ zs) x outer h = absurd (let w : ⊥ = cc in w)

period_stands : (q : Position) (form : SceneLine) (n : ℕ) → form ≡ line.Period n → may_stand q form ≡ true → in_class (innermost q.blocks) ≡ true
period_stands q form n e m = sym (ap (may_stand q) e) ∙ m

period_outer : (whole : List Placed) (inner : List Opener) (x : Opener) (outer : List Opener) (p : Placed) (n : ℕ) → IsStacked whole (inner ++ x ∷ outer) p → p.form ≡ line.Period n → length inner ≡ 0
period_outer whole inner x outer p n s e =
    let stack = inner ++ x ∷ outer in
    inner_none inner x outer (class_open stack (fitting whole p.at stack s.before s.open') (rw (← s.blocks) (period_stands s.position p.form n e s.may)))

-- ---- one line

record IsPeriodForm (form : SceneLine) : Type 0 where
  ticks : ℕ
  is : form ≡ line.Period ticks

record IsOtherForm (form : SceneLine) : Type 0 where
  quiet : gives attribute.Period form ≡ false
  none : ticks_in form ≡ None

period_form : (form : SceneLine) → IsPeriodForm form ⊎ IsOtherForm form
unfolding gives ticks_in
period_form (line.Period n) = inl (record { ticks = n; is = refl })
period_form _ = inr (record { quiet = refl; none = refl })

counts_not : (d : ℕ) (form : SceneLine) → gives attribute.Period form ≡ false → counts_for attribute.Period d form ≡ false
unfolding is_device_wide
counts_not zero form e = e
counts_not (suc d) form e = refl

given_here : (d k : ℕ) (l : NumberedLine) (ls : List NumberedLine) → counts_for attribute.Period d l.form ≡ true → given_from attribute.Period d k (l ∷ ls) ≡ Some k
unfolding given_from
given_here d k l ls e = rw e refl

given_none : (d k : ℕ) (l : NumberedLine) (ls : List NumberedLine) → counts_for attribute.Period d l.form ≡ false → ends_block d l.form ≡ true → given_from attribute.Period d k (l ∷ ls) ≡ None
unfolding given_from
given_none d k l ls e f = rw (e, f) refl

given_on : (d k : ℕ) (l : NumberedLine) (ls : List NumberedLine) → counts_for attribute.Period d l.form ≡ false → ends_block d l.form ≡ false → given_from attribute.Period d k (l ∷ ls) ≡ given_from attribute.Period (depth_after d l.form) (suc k) ls
unfolding given_from
given_on d k l ls e f = rw (e, f) refl

until_none : (d : ℕ) (l : NumberedLine) (ls : List NumberedLine) → ends_block d l.form ≡ true → until_end d (l ∷ ls) ≡ []
unfolding until_end
until_none d l ls e = rw e refl

until_on : (d : ℕ) (l : NumberedLine) (ls : List NumberedLine) → ends_block d l.form ≡ false → until_end d (l ∷ ls) ≡ l ∷ until_end (depth_after d l.form) ls
unfolding until_end
until_on d l ls e = rw e refl

first_of : (xs : List NumberedLine) (k : ℕ) (y : NumberedLine) (ys : List NumberedLine) → drop k xs ≡ y ∷ ys → slice_get xs k ≡ Some y
first_of [] zero y ys e = absurd (let z : ⊥ = cc in z)
first_of [] (suc k) y ys e = absurd (let z : ⊥ = cc in z)
first_of (x ∷ xs) zero y ys e = cc
first_of (x ∷ xs) (suc k) y ys e = first_of xs k y ys e

rest_of : (xs : List NumberedLine) (k : ℕ) (y : NumberedLine) (ys : List NumberedLine) → drop k xs ≡ y ∷ ys → drop (suc k) xs ≡ ys
rest_of [] zero y ys e = absurd (let z : ⊥ = cc in z)
rest_of [] (suc k) y ys e = absurd (let z : ⊥ = cc in z)
rest_of (x ∷ xs) zero y ys e = ap (drop 1) e
rest_of (x ∷ xs) (suc k) y ys e = rest_of xs k y ys e

-- ---- the lines of a block

-- the ticks of the line at a place, 0 for none
abbrev ticks_at : Scene → Option ℕ → ℕ
ticks_at scene o = unwrap_or (option_and_then ticks_in (option_and_then (form_at scene) o)) 0

here_ticks : (scene : Scene) (k n : ℕ) (l : NumberedLine) (ls : List NumberedLine) → drop k scene.lines ≡ l ∷ ls → l.form ≡ line.Period n → ticks_at scene (Some k) ≡ n
unfolding form_at ticks_in
here_ticks scene k n l ls at is = rw (first_of scene.lines k l ls at, is) refl

here_told : (n : ℕ) (l : NumberedLine) (ls : List NumberedLine) → l.form ≡ line.Period n → period_told (until_end 0 (l ∷ ls)) ≡ n
unfolding until_end ticks_in is_end
here_told n l ls is = rw is refl

here_counts : (form : SceneLine) (n : ℕ) → form ≡ line.Period n → counts_for attribute.Period 0 form ≡ true
unfolding gives
here_counts form n e = rw e refl

other_told : (d : ℕ) (l : NumberedLine) (ls : List NumberedLine) → ticks_in l.form ≡ None → ends_block d l.form ≡ false → period_told (until_end d (l ∷ ls)) ≡ period_told (until_end (depth_after d l.form) ls)
other_told d l ls e f = ap period_told (until_on d l ls f) ∙ ap (λ o. unwrap_or o (period_told (until_end (depth_after d l.form) ls))) e

nothing_told : (scene : Scene) (d k : ℕ) → ticks_at scene (given_from attribute.Period d k []) ≡ period_told (until_end d [])
unfolding given_from until_end
nothing_told scene d k = refl

period_from : (scene : Scene) (whole : List Placed) (inner : List Opener) (x : Opener) (outer : List Opener) (k : ℕ) (o : Stand) (c : Counts) (ls : List NumberedLine) → AreStacked whole k o c (inner ++ x ∷ outer) ls → drop k scene.lines ≡ ls → ticks_at scene (given_from attribute.Period (length inner) k ls) ≡ period_told (until_end (length inner) ls)
period_from scene whole inner x outer k o c [] s at = nothing_told scene (length inner) k
period_from scene whole inner x outer k o c (l ∷ ls) s at =
    by_form (period_form l.form) (ends_block (length inner) l.form) refl (λ t.
    let v = split inner x outer k l.form t in
    rw v.depth (period_from scene whole v.within v.own outer (suc k) (opened_by o k l.form) (counted c l.form (length l.picks)) ls (rw v.is at s.1) (rest_of scene.lines k l ls at)))
  where
    by_form : IsPeriodForm l.form ⊎ IsOtherForm l.form → (t : Bool) → ends_block (length inner) l.form ≡ t → (ends_block (length inner) l.form ≡ false → ticks_at scene (given_from attribute.Period (depth_after (length inner) l.form) (suc k) ls) ≡ period_told (until_end (depth_after (length inner) l.form) ls)) → ticks_at scene (given_from attribute.Period (length inner) k (l ∷ ls)) ≡ period_told (until_end (length inner) (l ∷ ls))
    by_form (inl h) t e later =
        let none : length inner ≡ 0 = period_outer whole inner x outer (placed_line k o c l) h.ticks s.0 h.is in
        rw none (ap (ticks_at scene) (given_here 0 k l ls (here_counts l.form h.ticks h.is)) ∙ (here_ticks scene k h.ticks l ls at h.is ∙ sym (here_told h.ticks l ls h.is)))
    by_form (inr h) true e later =
        ap (ticks_at scene) (given_none (length inner) k l ls (counts_not (length inner) l.form h.quiet) e) ∙ sym (ap period_told (until_none (length inner) l ls e))
    by_form (inr h) false e later =
        ap (ticks_at scene) (given_on (length inner) k l ls (counts_not (length inner) l.form h.quiet) e) ∙ (later e ∙ sym (other_told (length inner) l ls h.none e))

-- ---- classes

period_there : (scene : Scene) → IsScene scene → (p : Placed) → slice_get (placed scene) p.at ≡ Some p → opened p.form ≡ Some block.Class → period_of scene p.at ≡ period_told (block_lines scene p.at)
unfolding period_of given
period_there scene s p there opens' =
    let i = passed scene s p.at p there in
    let b = p.at in
    period_from scene (placed scene) [] (record { block = block.Class; line = b }) i.stack (suc b) (opened_by p.stand b p.form) (counted p.counts p.form (length i.line.picks)) (drop (suc b) scene.lines) (rw (after_opener i.stack b p.form block.Class opens') at i.rest) refl

class_row : (scene : Scene) → IsScene scene → (p : Placed) (form : SceneLine) → p.form ≡ form → slice_get (placed scene) p.at ≡ Some p → Both (IsPeriodTold scene) (cond (is_class form) (Some p) None) (class_on scene (declarations scene) p form)
unfolding class_on is_class
class_row scene s p (line.DeferredClass n k parent) is there = period_there scene s p there (rw is refl)
class_row scene s p _ is there = tt

pub periods_are : (scene : Scene) → IsScene scene → Paired (IsPeriodTold scene) (placed_that is_class scene) (plan_of scene).classes
unfolding plan_of plan_with
periods_are scene s =
    paired (IsPeriodTold scene) (λ p. cond (is_class p.form) (Some p) None) (λ p. class_on scene (declarations scene) p p.form) (placed scene) (every_map (λ p. slice_get (placed scene) p.at ≡ Some p) (λ p. Both (IsPeriodTold scene) (cond (is_class p.form) (Some p) None) (class_on scene (declarations scene) p p.form)) (λ p h. class_row scene s p p.form refl h) (placed scene) (every_there scene s))
