-- The lines of a section but for those of the ids before one, id by id; and the whole list from its front.
use Rattle.std.proofs.Common.{◌≡◌, ℕ, zero, suc, ◌+◌, ◌-◌, ◌<◌, ◌≤◌, List, [], ◌∷◌, ◌++◌, Some, None, drop, length, refl, sym, ap, ◌∙◌, arith, length-append, append_assoc}
use Rattle.std.specs.List.{cons_option, filter_map, flat_map, range_with_len}
use Rattle.std.proofs.lemmas.List.{drop_all}
use Rattle.std.proofs.lemmas.List.Elements.{filter_map-append}
use Rattle.wdf_base.specs.Meaning.{Meaning}
use Rattle.wdf_base.specs.declared.plan.Plan.{Plan}
use Rattle.wdf_base.specs.declared.wait.WaitLine.{WaitLine}
use Rattle.wdf_model.specs.State.{State}
use Rattle.wdf_model.specs.Tables.{first_of_list}
use Rattle.wdf_model.specs.rules.Waits.{wait_lines}
use Rattle.wdf_causes.proofs.Ranges.{range_opens, range_whole}
use Rattle.wdf_waits.specs.Lines.{line_in, lines_below, section_lines}
use Rattle.wdf_waits.specs.Walks.{front, lines_at, rest_in, sections_after}
use Rattle.wdf_waits.specs.declared.section.Section.{Section}
use Rattle.wdf_waits.specs.declared.section.Section.TheVariants as section
use Rattle.wdf_waits.proofs.OnLines.{six}

-- ---- ranges, and lists one after the other

range_last : (a n : ℕ) → range_with_len a (suc n) ≡ range_with_len a n ++ (a + n) ∷ []
range_last a zero = let e : a ≡ a + 0 = omega arith in ap (λ x. x ∷ []) e
range_last a (suc n) = let e : a + 1 + n ≡ a + suc n = omega arith in ap (λ xs. a ∷ xs) (range_last (a + 1) n ∙ ap (λ x. range_with_len (a + 1) n ++ x ∷ []) e)

split_range : (n id : ℕ) → id ≤ n → range_with_len 0 n ≡ range_with_len 0 id ++ range_with_len id (n - id)
split_range n zero h = sym (range_whole n)
split_range n (suc id) h =
    let next : id + 1 ≡ suc id = omega arith in
    let left : List ℕ = range_with_len (id + 1) (n - (id + 1)) in
    let at : 0 + id ≡ id = omega arith in
    let one : range_with_len 0 (suc id) ≡ range_with_len 0 id ++ id ∷ [] = range_last 0 id ∙ ap (λ x. range_with_len 0 id ++ x ∷ []) at in
    split_range n id (omega arith) ∙ ap (λ xs. range_with_len 0 id ++ xs) (range_opens id n (omega arith)) ∙ sym (append_assoc (range_with_len 0 id) (id ∷ []) left)
    ∙ ap (λ xs. xs ++ left) (sym one) ∙ ap (λ k. range_with_len 0 (suc id) ++ range_with_len k (n - k)) next

drop_front : {T : Type 0} (xs ys : List T) → drop (length xs) (xs ++ ys) ≡ ys
drop_front [] ys = refl
drop_front (x ∷ xs) ys = drop_front xs ys

module _ {A : Type 0} (plan : Plan) (m : Meaning A) (S : State A) (s : Section) where
  abbrev between : ℕ → ℕ → List WaitLine
  between id end = filter_map (line_in plan m S s) (range_with_len id (end - id))

  split_lines : (end id : ℕ) → id ≤ end → lines_below plan m S s end ≡ lines_below plan m S s id ++ between id end
  split_lines end id h = ap (filter_map (line_in plan m S s)) (split_range end id h) ∙ filter_map-append (line_in plan m S s) (range_with_len 0 id) (range_with_len id (end - id))

  -- as long as there are ids
  rest_is : (end id : ℕ) → lines_below plan m S s end ≡ section_lines plan m S s → id ≤ end → rest_in plan m S s id ≡ between id end
  unfolding rest_in
  rest_is end id whole h =
      ap (drop (length (lines_below plan m S s id))) (sym whole ∙ split_lines end id h) ∙ drop_front (lines_below plan m S s id) (between id end)

  -- past them
  pub rest_past : (end id : ℕ) → lines_below plan m S s end ≡ section_lines plan m S s → end ≤ id → rest_in plan m S s id ≡ []
  unfolding rest_in
  rest_past end id whole h =
      let more = ap length (split_lines id end h) in
      let long = length-append (lines_below plan m S s end) (between end id) in
      let same = ap length whole in
      drop_all (length (lines_below plan m S s id)) (section_lines plan m S s) (omega arith)

  -- from the front of the section
  pub rest_first : rest_in plan m S s 0 ≡ section_lines plan m S s
  unfolding rest_in
  rest_first = refl

  opens : (end id : ℕ) → lines_below plan m S s end ≡ section_lines plan m S s → id < end → rest_in plan m S s id ≡ cons_option (line_in plan m S s id) (rest_in plan m S s (id + 1))
  opens end id whole h =
      rest_is end id whole (omega arith) ∙ ap (filter_map (line_in plan m S s)) (range_opens id end h)
      ∙ ap (cons_option (line_in plan m S s id)) (sym (rest_is end (id + 1) whole (omega arith)))

  pub rest_skips : (end id : ℕ) → lines_below plan m S s end ≡ section_lines plan m S s → id < end → None ≡ line_in plan m S s id → rest_in plan m S s (id + 1) ≡ rest_in plan m S s id
  rest_skips end id whole h none = sym (opens end id whole h ∙ ap (λ o. cons_option o (rest_in plan m S s (id + 1))) (sym none))

  pub rest_here : (end id : ℕ) (line : WaitLine) → lines_below plan m S s end ≡ section_lines plan m S s → id < end → Some line ≡ line_in plan m S s id
      → rest_in plan m S s id ≡ line ∷ rest_in plan m S s (id + 1)
  rest_here end id line whole h some = opens end id whole h ∙ ap (λ o. cons_option o (rest_in plan m S s (id + 1))) (sym some)

-- the lines from the front on are all
pub from_front : {A : Type 0} (plan : Plan) (m : Meaning A) (S : State A) → lines_at plan m S front ≡ wait_lines plan m S
from_front plan m S =
    let L : Section → List WaitLine = section_lines plan m S in
    ap (λ ls. ls ++ flat_map L (section.Requests ∷ section.Devices ∷ section.Objects ∷ section.Work ∷ section.Asking ∷ [])) (rest_first plan m S section.Frames)
    ∙ sym (six (L section.Frames) (L section.Requests) (L section.Devices) (L section.Objects) (L section.Work) (L section.Asking))

-- ---- a section that has no more line is left

passes_by : (s t : Section) → Some t ≡ first_of_list (sections_after s) → sections_after s ≡ t ∷ sections_after t
passes_by section.Frames t h = let e : t ≡ section.Requests = cc in rw e refl
passes_by section.Requests t h = let e : t ≡ section.Devices = cc in rw e refl
passes_by section.Devices t h = let e : t ≡ section.Objects = cc in rw e refl
passes_by section.Objects t h = let e : t ≡ section.Work = cc in rw e refl
passes_by section.Work t h = let e : t ≡ section.Asking = cc in rw e refl
passes_by section.Asking t h = absurd (let z : ⊥ = cc in z)

pub section_passes : {A : Type 0} (plan : Plan) (m : Meaning A) (S : State A) (s t : Section) (id : ℕ) → rest_in plan m S s id ≡ [] → Some t ≡ first_of_list (sections_after s)
    → lines_at plan m S (record { section = t; id = 0 }) ≡ lines_at plan m S (record { section = s; id = id })
section_passes plan m S s t id none next =
    let L : Section → List WaitLine = section_lines plan m S in
    ap (λ ls. ls ++ flat_map L (sections_after t)) (rest_first plan m S t) ∙ sym (ap (flat_map L) (passes_by s t next)) ∙ sym (ap (λ ls. ls ++ flat_map L (sections_after s)) none)
