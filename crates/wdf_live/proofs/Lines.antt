-- What was taken from the pipe is a front of the numbered journal, and its lines are those of the journal's first events.
use Rattle.std.proofs.Common.{◌≡◌, ℕ, suc, ◌+◌, ◌≤◌, List, [], ◌∷◌, ◌++◌, length, take, refl, ap, sym, ◌∙◌, subst, arith, codes, append_assoc}
use Rattle.std.proofs.lemmas.List.{append-nil}
use Rattle.wdf_base.specs.declared.plan.Plan.{Plan}
use Rattle.wdf_base.specs.declared.event.Event.{Event}
use Rattle.wdf_lines.specs.Lines.{line_text, lines_from}
use Rattle.wdf_pipe.specs.declared.item.Item.{Item}
use Rattle.wdf_pipe.specs.declared.item.Item.TheVariants.{Numbered, End}
use Rattle.wdf_live.specs.Slot.{numbered}
use Rattle.wdf_live.specs.Told.{item_line, item_lines, count_of, lines_in}

-- as many as the events
pub numbered_length : (n : ℕ) (run : List Event) → length (numbered n run) ≡ length run
numbered_length n [] = refl
numbered_length n (e ∷ es) = ap suc (numbered_length (n + 1) es)

-- an event more
pub numbered_more : (n : ℕ) (run : List Event) (e : Event) → numbered n (run ++ e ∷ []) ≡ numbered n run ++ Numbered (n + length run) e ∷ []
numbered_more n [] e = let same : n + 0 ≡ n = omega arith in ap (λ (k : ℕ). Numbered k e ∷ []) (sym same)
numbered_more n (x ∷ xs) e =
    let same : n + 1 + length xs ≡ n + suc (length xs) = omega arith in
    ap (λ (l : List Item). Numbered n x ∷ l) (numbered_more (n + 1) xs e ∙ ap (λ (k : ℕ). numbered (n + 1) xs ++ Numbered k e ∷ []) same)

-- an item more
pub item_lines_more : (plan : Plan) (items : List Item) (item : Item) → item_lines plan (items ++ item ∷ []) ≡ item_lines plan items ++ item_line plan item
item_lines_more plan [] item = append-nil (item_line plan item)
item_lines_more plan (x ∷ xs) item =
    ap (λ (l : List ℕ). item_line plan x ++ l) (item_lines_more plan xs item) ∙ sym (append_assoc (item_line plan x) (item_lines plan xs) (item_line plan item))

pub lines_in_more : (items : List Item) (item : Item) → lines_in (items ++ item ∷ []) ≡ lines_in items + count_of item
lines_in_more [] item = omega arith
lines_in_more (x ∷ xs) item = omega (arith, lines_in_more xs item)

one_more : (k : ℕ) → suc k ≡ 1 + k
one_more k = omega arith

-- what was taken of a journal and its end mark
pub record IsFront (plan : Plan) (n : ℕ) (run : List Event) (taken : List Item) : Type 0 where
  pub count : lines_in taken ≤ length run
  pub lines : item_lines plan taken ≡ lines_from plan n (take (lines_in taken) run)

only_end : (taken rest : List Item) → End ∷ [] ≡ taken ++ rest → (lines_in taken ≡ 0)
only_end [] rest e = refl
only_end (x ∷ []) rest e = let same : End ≡ x = cc (e) in ap (λ (i : Item). lines_in (i ∷ [])) (sym same)
only_end (x ∷ y ∷ ys) rest e = absurd (let z : ⊥ = cc (e) in z)

only_end_lines : (plan : Plan) (taken rest : List Item) → End ∷ [] ≡ taken ++ rest → item_lines plan taken ≡ []
only_end_lines plan [] rest e = refl
only_end_lines plan (x ∷ []) rest e = let same : End ≡ x = cc (e) in ap (λ (i : Item). item_lines plan (i ∷ [])) (sym same)
only_end_lines plan (x ∷ y ∷ ys) rest e = absurd (let z : ⊥ = cc (e) in z)

pub front : (plan : Plan) (n : ℕ) (run : List Event) (taken rest : List Item) → numbered n run ++ End ∷ [] ≡ taken ++ rest → IsFront plan n run taken
front plan n run [] rest e = record { count = omega arith; lines = refl }
front plan n [] (x ∷ xs) rest e =
    let none = only_end (x ∷ xs) rest e in
    record { count = omega arith; lines = only_end_lines plan (x ∷ xs) rest e ∙ ap (λ (k : ℕ). lines_from plan n (take k [])) (sym none) }
front plan n (e ∷ es) (x ∷ xs) rest same =
    let head : x ≡ Numbered n e = cc (same) in
    let tail : numbered (n + 1) es ++ End ∷ [] ≡ xs ++ rest = cc (same) in
    let more = front plan (n + 1) es xs rest tail in
    subst (λ (i : Item). IsFront plan n (e ∷ es) (i ∷ xs)) (sym head)
    (record {
      count = omega (arith, more.count);
      lines = ap (λ (l : List ℕ). (line_text plan n e ++ codes "\n") ++ l) more.lines ∙ ap (λ (k : ℕ). lines_from plan n (take k (e ∷ es))) (one_more (lines_in xs));
    })
