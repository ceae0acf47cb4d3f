-- The lines of a scene may come where they do also without its `order` block, and with another one after them.
use Rattle.std.proofs.Common.{◌≡◌, Bool, true, false, List, [], ◌∷◌, ◌++◌, Option, Some, None, option_map, IsTrue, IsSomeAnd, refl, sym, ap, ◌∙◌, subst}
use Rattle.std.specs.Prelude.{if◌then◌else◌}
use Rattle.std.specs.Option.{option_and_then}
use Rattle.wdf_scene.specs.declared.block.Block.TheVariants as block
use Rattle.wdf_scene.specs.declared.line.SceneLine.{SceneLine}
use Rattle.wdf_scene.specs.declared.line.SceneLine.TheVariants as line
use Rattle.wdf_scene.specs.Blocks.{Position, after_line, after_lines, is_outside, may_stand, moved}
use Rattle.wdf_refusals.specs.Numbered.{Every}
use Rattle.wdf_refusals.proofs.Heads.{Ends, stood}
use Rattle.law_order.proofs.Bodies.{begins_order}

-- a line that begins no `order` block
abbrev pub IsOtherForm : SceneLine → Type 0
IsOtherForm f = begins_order f ≡ false

abbrev pub with_order : Bool → Position → Position
with_order b p = record p { order = b }

-- ---- one list after the other

pub both_after : (o : Option Position) (fs gs : List SceneLine) → after_lines o (fs ++ gs) ≡ after_lines (after_lines o fs) gs
both_after o [] gs = refl
both_after o (f ∷ fs) gs = both_after (option_and_then (λ q. after_line q f) o) fs gs

nowhere : (fs : List SceneLine) → after_lines None fs ≡ None
nowhere [] = refl
nowhere (f ∷ fs) = nowhere fs

-- where a text ends after two lists, there is a place between them
pub record Between (p : Position) (fs gs : List SceneLine) : Type 0 where
  pub at : Position
  pub there : after_lines (Some p) fs ≡ Some at
  pub ends : Ends at gs

between_by : (p : Position) (fs gs : List SceneLine) (o : Option Position) → after_lines (Some p) fs ≡ o → IsSomeAnd (after_lines o gs) (λ q. IsTrue (is_outside q)) → Between p fs gs
between_by p fs gs None e h = absurd (subst (λ x. IsSomeAnd x (λ q. IsTrue (is_outside q))) (nowhere gs) h)
between_by p fs gs (Some at) e h = record { at = at; there = e; ends = h }

pub between : (p : Position) (fs gs : List SceneLine) → Ends p (fs ++ gs) → Between p fs gs
between p fs gs h = between_by p fs gs (after_lines (Some p) fs) refl (subst (λ x. IsSomeAnd x (λ q. IsTrue (is_outside q))) (both_after (Some p) fs gs) h)

-- and the other way round
pub joined : (p at : Position) (fs gs : List SceneLine) → after_lines (Some p) fs ≡ Some at → Ends at gs → Ends p (fs ++ gs)
joined p at fs gs e h = subst (λ x. IsSomeAnd x (λ q. IsTrue (is_outside q))) (sym (both_after (Some p) fs gs ∙ ap (λ o. after_lines o gs) e)) h

-- ---- whether there was an `order` block doesn't matter to other lines

stands_alike : (b : Bool) (p : Position) (form : SceneLine) → begins_order form ≡ false → may_stand (with_order b p) form ≡ may_stand p form
stands_alike b p line.Order h = absurd (let z : ⊥ = cc in z)
stands_alike b p (line.Scope None) h = refl
stands_alike b p (line.Scope (Some s)) h = refl
stands_alike b p (line.Level None) h = refl
stands_alike b p (line.Level (Some l)) h = refl
stands_alike b p _ h = refl

goes_alike : (b : Bool) (p : Position) (form : SceneLine) → begins_order form ≡ false → moved (with_order b p) form ≡ with_order b (moved p form)
goes_alike b p line.Order h = absurd (let z : ⊥ = cc in z)
goes_alike b p _ h = refl

line_alike : (b : Bool) (form : SceneLine) → begins_order form ≡ false → (o : Option Position) → option_and_then (λ q. after_line q form) (option_map (with_order b) o) ≡ option_map (with_order b) (option_and_then (λ q. after_line q form) o)
line_alike b form h None = refl
line_alike b form h (Some p) =
    ap (λ t. if t then Some (moved (with_order b p) form) else None) (stands_alike b p form h)
    ∙ ap (λ q. if may_stand p form then Some q else None) (goes_alike b p form h)
    ∙ by_test (may_stand p form)
  where
    by_test : (t : Bool) → (if t then Some (with_order b (moved p form)) else None) ≡ option_map (with_order b) (if t then Some (moved p form) else None)
    by_test true = refl
    by_test false = refl

pub lines_alike : (b : Bool) (fs : List SceneLine) → Every IsOtherForm fs → (o : Option Position) → after_lines (option_map (with_order b) o) fs ≡ option_map (with_order b) (after_lines o fs)
lines_alike b [] h o = refl
lines_alike b (f ∷ fs) h o = ap (λ x. after_lines x fs) (line_alike b f h.0 o) ∙ lines_alike b fs h.1 (option_and_then (λ q. after_line q f) o)

-- where it was none before other lines, it is none after them
pub still_none : (p q : Position) (fs : List SceneLine) → Every IsOtherForm fs → p.order ≡ false → after_lines (Some p) fs ≡ Some q → q.order ≡ false
still_none p q fs h e there =
    let same : with_order false p ≡ p = ap (λ b. with_order b p) (sym e) in
    let again : Some q ≡ Some (with_order false q) =
    sym there ∙ ap (λ x. after_lines (Some x) fs) (sym same) ∙ lines_alike false fs h (Some p) ∙ ap (option_map (with_order false)) there in
    let is : q ≡ with_order false q = cc in
    ap (λ (x : Position). x.order) is

-- ---- an `order` block

-- after one, all is as it was, but that there was one
passed_picks : (p : Position) (rest gs : List SceneLine) → Every (λ f. f ≡ line.Picks) rest → Ends (record p { blocks = block.Order ∷ p.blocks; order = true }) (rest ++ line.End ∷ gs) → Ends (with_order true p) gs
passed_picks p [] gs h ends = ends
passed_picks p (f ∷ rest) gs h ends = passed_picks p rest gs h.1 (subst (λ g. Ends (record p { blocks = block.Order ∷ p.blocks; order = true }) (g ∷ (rest ++ line.End ∷ gs))) h.0 ends)

pub record IsPast (p : Position) (gs : List SceneLine) : Type 0 where
  pub may : may_stand p line.Order ≡ true
  pub ends : Ends (with_order true p) gs

pub past_order : (p : Position) (picks gs : List SceneLine) → Every (λ f. f ≡ line.Picks) picks → Ends p (line.Order ∷ (picks ++ line.End ∷ gs)) → IsPast p gs
past_order p picks gs h ends =
    let st = stood p line.Order (picks ++ line.End ∷ gs) (may_stand p line.Order) refl ends in
    record { may = st.0; ends = passed_picks p picks gs h st.1 }

-- outside all blocks one may come, where there was none
pub order_ends : (p : Position) → IsTrue (is_outside p) → p.order ≡ false → Ends p (line.Order ∷ line.Picks ∷ line.End ∷ [])
order_ends p out none' =
    let may : may_stand p line.Order ≡ true = rw (out, none') refl in
    subst (λ (t : Bool). IsSomeAnd (after_lines (if t then Some (moved p line.Order) else None) (line.Picks ∷ line.End ∷ [])) (λ q. IsTrue (is_outside q))) (sym may) out

-- ---- the lines without their block, and with another one at the end

-- after some lines, in no block, where there was no `order` block
pub record IsOpenAfter (p : Position) (fs : List SceneLine) : Type 0 where
  pub at : Position
  pub there : after_lines (Some p) fs ≡ Some at
  pub out : IsTrue (is_outside at)
  pub unordered : at.order ≡ false

at_end : (p : Position) (fs : List SceneLine) (b : Between p fs []) → Every IsOtherForm fs → p.order ≡ false → IsOpenAfter p fs
at_end p fs b h e = record { at = b.at; there = b.there; out = b.ends; unordered = still_none p b.at fs h e b.there }

pub open_without : (p : Position) (fs : List SceneLine) → Every IsOtherForm fs → p.order ≡ false → Ends p (fs ++ []) → IsOpenAfter p fs
open_without p fs h e ends = at_end p fs (between p fs [] ends) h e

undone : (q : Position) (o : Option Position) (out : IsSomeAnd (option_map (with_order true) o) (λ x. IsTrue (is_outside x))) → IsSomeAnd o (λ x. IsTrue (is_outside x))
undone q None out = out
undone q (Some x) out = out

some_of : (o : Option Position) (p : Position) (fs : List SceneLine) → after_lines (Some p) fs ≡ o → IsSomeAnd o (λ x. IsTrue (is_outside x)) → p.order ≡ false → Every IsOtherForm fs → IsOpenAfter p fs
some_of None p fs e h unordered others = absurd h
some_of (Some at) p fs e h unordered others = record { at = at; there = e; out = h; unordered = still_none p at fs others unordered e }

pub open_cut : (p : Position) (before picks after : List SceneLine) → Every IsOtherForm before → Every (λ f. f ≡ line.Picks) picks → Every IsOtherForm after → p.order ≡ false
    → Ends p (before ++ (line.Order ∷ (picks ++ line.End ∷ after))) → IsOpenAfter p (before ++ after)
open_cut p before picks after none_before are none_after e ends =
    let b = between p before (line.Order ∷ (picks ++ line.End ∷ after)) ends in
    let unordered : b.at.order ≡ false = still_none p b.at before none_before e b.there in
    let past = past_order b.at picks after are b.ends in
    let out = subst (λ x. IsSomeAnd x (λ q. IsTrue (is_outside q))) (lines_alike true after none_after (Some b.at)) past.ends in
    let rest = some_of (after_lines (Some b.at) after) b.at after refl (undone b.at (after_lines (Some b.at) after) out) unordered none_after in
    record { at = rest.at; there = both_after (Some p) before after ∙ ap (λ o. after_lines o after) b.there ∙ rest.there; out = rest.out; unordered = rest.unordered }

-- so do they with another block after them
pub ends_ordered : (p : Position) (fs : List SceneLine) → IsOpenAfter p fs → Ends p (fs ++ (line.Order ∷ line.Picks ∷ line.End ∷ []))
ends_ordered p fs o = joined p o.at fs (line.Order ∷ line.Picks ∷ line.End ∷ []) o.there (order_ends o.at o.out o.unordered)

pub ends_bare : (p : Position) (fs : List SceneLine) → IsOpenAfter p fs → Ends p fs
ends_bare p fs o = subst (λ x. IsSomeAnd x (λ q. IsTrue (is_outside q))) (sym o.there) o.out
