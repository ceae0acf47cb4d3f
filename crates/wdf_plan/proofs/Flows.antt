-- The statements of a callback are those of its tree.
use Rattle.std.proofs.Common.{◌≡◌, ℕ, ◌+◌, true, false, List, [], ◌∷◌, ◌++◌, length, Option, Some, None, refl, ap, sym, ◌∙◌, arith, append_assoc, append-nil}
use Rattle.std.specs.Prelude.{◌==◌}
use Rattle.std.specs.List.{cons_option}
use Rattle.std.proofs.lemmas.Bool.{ne_eqb}
use Rattle.wdf_base.specs.declared.script.Act.{Act}
use Rattle.wdf_base.specs.declared.script.Act.TheVariants as act
use Rattle.wdf_base.specs.declared.script.Statement.{Statement}
use Rattle.wdf_scene.specs.declared.line.NumberedLine.{NumberedLine}
use Rattle.wdf_scene.specs.declared.line.SceneLine.{SceneLine}
use Rattle.wdf_scene.specs.declared.line.SceneLine.TheVariants as line
use Rattle.wdf_plan.specs.declared.course.Nest.{Nest}
use Rattle.wdf_plan.specs.declared.course.Nest.TheVariants as nest
use Rattle.wdf_blocks.specs.declared.declaration.Declaration.{Declaration}
use Rattle.wdf_blocks.specs.Forms.{is_end}
use Rattle.wdf_plan.specs.Scripts.{statements_from, statement_on, act_on, plain_act, nests_after, told_line, passed, onward, beyond, loops}
use Rattle.wdf_plan.proofs.Nesting.{length_last, outer_last, nest_last, loops_last}
use Rattle.wdf_plan.specs.Flow.{Opening, Body, Empty, Plain, If, IfElse, Repeat, is_plain, lines_of, size, entry, plain_statement, flow, numbered}
use Rattle.wdf_plan.proofs.Passing.{way, plain_form, stop, past_block, past_branch, enter, end_of_if, end_of_branch, end_of_loop}

-- ---- one line

plain_step : (names : List Declaration) (variables : List (List ℕ)) (blocks : List Nest) (n : ℕ) (l : NumberedLine) (ls : List NumberedLine) → is_plain l.form ≡ true → statements_from names variables blocks n (l ∷ ls) ≡ cons_option (plain_statement names variables l (onward blocks (n + 1) ls)) (statements_from names variables blocks (n + 1) ls)
unfolding statements_from statement_on told_line
plain_step names variables blocks n l ls h =
    let p = plain_form names variables l.form h in
    rw (p.ends, p.behind blocks n l.number, p.does blocks blocks n ls, p.is) refl

if_step : (names : List Declaration) (variables : List (List ℕ)) (blocks : List Nest) (n : ℕ) (h : Opening) (ls : List NumberedLine) → statements_from names variables blocks n (numbered h.line (line.If h.expression) ∷ ls) ≡ record { line = h.line; next = onward (blocks ++ nest.Branch ∷ []) (n + 1) ls; act = act.If h.expression (beyond (blocks ++ nest.Branch ∷ []) (n + 1) ls) } ∷ statements_from names variables (blocks ++ nest.Branch ∷ []) (n + 1) ls
unfolding statements_from statement_on act_on nests_after told_line is_end
if_step names variables blocks n h ls = refl

else_step : (names : List Declaration) (variables : List (List ℕ)) (blocks : List Nest) (n number : ℕ) (ls : List NumberedLine) → statements_from names variables blocks n (numbered number line.Else ∷ ls) ≡ statements_from names variables blocks n ls
unfolding statements_from statement_on act_on plain_act nests_after told_line is_end
else_step names variables blocks n number ls = refl

repeat_step : (names : List Declaration) (variables : List (List ℕ)) (blocks : List Nest) (n : ℕ) (h : Opening) (ls : List NumberedLine) → statements_from names variables blocks n (numbered h.line (line.Repeat h.expression) ∷ ls) ≡ record { line = h.line; next = onward (blocks ++ nest.Loop h.line n ∷ []) (n + 1) ls; act = act.Repeat h.expression (loops blocks) (beyond (blocks ++ nest.Loop h.line n ∷ []) (n + 2) ls) } ∷ statements_from names variables (blocks ++ nest.Loop h.line n ∷ []) (n + 1) ls
unfolding statements_from statement_on act_on nests_after told_line is_end
repeat_step names variables blocks n h ls = refl

in_block : (blocks : List Nest) (x : Nest) → (length (blocks ++ x ∷ []) == 0) ≡ false
in_block blocks x = let long = length_last blocks x in ne_eqb _ _ (λ e. omega (arith, e))

if_end : (names : List Declaration) (variables : List (List ℕ)) (blocks : List Nest) (n number : ℕ) (ls : List NumberedLine) → statements_from names variables (blocks ++ nest.Branch ∷ []) n (numbered number line.End ∷ ls) ≡ statements_from names variables blocks n ls
unfolding statements_from statement_on act_on nests_after told_line is_end
if_end names variables blocks n number ls =
    rw (in_block blocks nest.Branch, nest_last blocks nest.Branch, outer_last blocks nest.Branch) refl

repeat_end : (names : List Declaration) (variables : List (List ℕ)) (blocks : List Nest) (own start n number : ℕ) (ls : List NumberedLine) → statements_from names variables (blocks ++ nest.Loop own start ∷ []) n (numbered number line.End ∷ ls) ≡ record { line = own; next = onward blocks (n + 1) ls; act = act.Again (loops blocks) (start + 1) } ∷ statements_from names variables blocks (n + 1) ls
unfolding statements_from statement_on act_on nests_after told_line is_end
repeat_end names variables blocks own start n number ls =
    rw (in_block blocks (nest.Loop own start), nest_last blocks (nest.Loop own start), outer_last blocks (nest.Loop own start)) refl

-- ---- a body

loops_branch : (blocks : List Nest) → loops (blocks ++ nest.Branch ∷ []) ≡ loops blocks
loops_branch blocks = let h = loops_last blocks nest.Branch in omega arith

loops_loop : (blocks : List Nest) (own start : ℕ) → loops (blocks ++ nest.Loop own start ∷ []) ≡ loops blocks + 1
loops_loop blocks own start = let h = loops_last blocks (nest.Loop own start) in omega arith

-- a statement, with what is known of its parts
told : (n next next' : ℕ) (a a' : Act) (xs ys : List Statement) → next ≡ next' → a ≡ a' → xs ≡ ys → record { line = n; next = next; act = a } ∷ xs ≡ record { line = n; next = next'; act = a' } ∷ ys
told n next next' a a' xs ys e f g = rw (e, f, g) refl

with_option : (o : Option Statement) (xs ys : List Statement) → cons_option o (xs ++ ys) ≡ cons_option o xs ++ ys
with_option None xs ys = refl
with_option (Some x) xs ys = refl

-- a body with no statement begins with what comes after it
entry_own : (body : Body) (n : ℕ) → entry body n (n + size body) ≡ n
unfolding size
entry_own Empty n = omega arith
entry_own _ n = refl

-- the statements from the lines of a body on are the body's, and then those that follow it
abbrev Flows : List Declaration → List (List ℕ) → List Nest → ℕ → ℕ → ℕ → Body → List NumberedLine → Type 0
Flows names variables blocks n m after body rest =
    statements_from names variables blocks n (lines_of body ++ rest) ≡ flow names variables (loops blocks) n after body ++ statements_from names variables blocks m rest

-- the same, in loops that were counted
in_loops : (names : List Declaration) (variables : List (List ℕ)) (blocks : List Nest) (depth n m after : ℕ) (body : Body) (rest : List NumberedLine) → loops blocks ≡ depth → Flows names variables blocks n m after body rest → statements_from names variables blocks n (lines_of body ++ rest) ≡ flow names variables depth n after body ++ statements_from names variables blocks m rest
in_loops names variables blocks depth n m after body rest e h = h ∙ ap (λ d. flow names variables d n after body ++ statements_from names variables blocks m rest) e

-- a body's lines where the way after it leads to `after`
flows : (names : List Declaration) (variables : List (List ℕ)) (blocks : List Nest) (n m after : ℕ) (body : Body) (rest : List NumberedLine) → n + size body ≡ m → onward blocks m rest ≡ after → Flows names variables blocks n m after body rest
unfolding lines_of size flow
flows names variables blocks n m after Empty rest e goes =
    ap (λ k. statements_from names variables blocks k rest) (let same : n ≡ m = omega (arith, e) in same)
flows names variables blocks n m after (Plain l is tail) rest e goes =
    let behind = lines_of tail ++ rest in
    plain_step names variables blocks n l behind is
    ∙ (ap (λ k. cons_option (plain_statement names variables l k) (statements_from names variables blocks (n + 1) behind)) (enter blocks (n + 1) m after tail rest (omega (arith, e)) goes)
    ∙ (ap (λ xs. cons_option (plain_statement names variables l (entry tail (n + 1) after)) xs) (flows names variables blocks (n + 1) m after tail rest (omega (arith, e)) goes)
    ∙ with_option (plain_statement names variables l (entry tail (n + 1) after)) (flow names variables (loops blocks) (n + 1) after tail) (statements_from names variables blocks m rest)))
flows names variables blocks n m after (If h branch closing tail) rest e goes =
    let close = numbered closing line.End in
    let behind = lines_of tail ++ rest in
    let inner = blocks ++ nest.Branch ∷ [] in
    let q = n + 1 + size branch in
    let next = entry tail q after in
    let depth = loops blocks in
    let last = statements_from names variables blocks m rest in
    let apart = append_assoc (lines_of branch) (close ∷ lines_of tail) rest in
    let on : onward blocks q behind ≡ next = enter blocks q m after tail rest (omega (arith, e)) goes in
    let out : onward inner q (close ∷ behind) ≡ next = end_of_if blocks q closing behind ∙ on in
    let body : statements_from names variables inner (n + 1) (lines_of branch ++ close ∷ behind) ≡ flow names variables depth (n + 1) next branch ++ (flow names variables depth q after tail ++ last) =
    in_loops names variables inner depth (n + 1) q next branch (close ∷ behind) (loops_branch blocks) (flows names variables inner (n + 1) q next branch (close ∷ behind) refl out)
    ∙ ap (λ xs. flow names variables depth (n + 1) next branch ++ xs) (if_end names variables blocks q closing behind ∙ flows names variables blocks q m after tail rest (omega (arith, e)) goes) in
    if_step names variables blocks n h ((lines_of branch ++ close ∷ lines_of tail) ++ rest)
    ∙ told h.line _ (entry branch (n + 1) next) _ (act.If h.expression next) _ _
    (ap (λ ls. onward inner (n + 1) ls) apart ∙ enter inner (n + 1) q next branch (close ∷ behind) refl out)
    (ap (λ ls. act.If h.expression (beyond inner (n + 1) ls)) apart ∙ ap (λ k. act.If h.expression k) (past_block blocks nest.Branch (n + 1) closing branch behind ∙ on))
    (ap (λ ls. statements_from names variables inner (n + 1) ls) apart ∙ (body ∙ sym (append_assoc (flow names variables depth (n + 1) next branch) (flow names variables depth q after tail) last)))
flows names variables blocks n m after (IfElse h first middle second closing tail) rest e goes =
    let between = numbered middle line.Else in
    let close = numbered closing line.End in
    let behind = lines_of tail ++ rest in
    let inner = blocks ++ nest.Branch ∷ [] in
    let p = n + 1 + size first in
    let q = p + size second in
    let next = entry tail q after in
    let depth = loops blocks in
    let last = statements_from names variables blocks m rest in
    let other = lines_of second ++ close ∷ behind in
    let apart : (lines_of first ++ between ∷ (lines_of second ++ close ∷ lines_of tail)) ++ rest ≡ lines_of first ++ between ∷ other =
    append_assoc (lines_of first) (between ∷ (lines_of second ++ close ∷ lines_of tail)) rest
    ∙ ap (λ ls. lines_of first ++ between ∷ ls) (append_assoc (lines_of second) (close ∷ lines_of tail) rest) in
    let on : onward blocks q behind ≡ next = enter blocks q m after tail rest (omega (arith, e)) goes in
    let out : onward inner q (close ∷ behind) ≡ next = end_of_if blocks q closing behind ∙ on in
    let across : onward inner p (between ∷ other) ≡ next = end_of_branch blocks p middle closing second behind ∙ on in
    let ends : statements_from names variables inner p other ≡ flow names variables depth p next second ++ (flow names variables depth q after tail ++ last) =
    in_loops names variables inner depth p q next second (close ∷ behind) (loops_branch blocks) (flows names variables inner p q next second (close ∷ behind) refl out)
    ∙ ap (λ xs. flow names variables depth p next second ++ xs) (if_end names variables blocks q closing behind ∙ flows names variables blocks q m after tail rest (omega (arith, e)) goes) in
    let body : statements_from names variables inner (n + 1) (lines_of first ++ between ∷ other) ≡ flow names variables depth (n + 1) next first ++ (flow names variables depth p next second ++ (flow names variables depth q after tail ++ last)) =
    in_loops names variables inner depth (n + 1) p next first (between ∷ other) (loops_branch blocks) (flows names variables inner (n + 1) p next first (between ∷ other) refl across)
    ∙ ap (λ xs. flow names variables depth (n + 1) next first ++ xs) (else_step names variables inner p middle other ∙ ends) in
    let joined : flow names variables depth (n + 1) next first ++ (flow names variables depth p next second ++ (flow names variables depth q after tail ++ last)) ≡ (flow names variables depth (n + 1) next first ++ (flow names variables depth p next second ++ flow names variables depth q after tail)) ++ last =
    ap (λ xs. flow names variables depth (n + 1) next first ++ xs) (sym (append_assoc (flow names variables depth p next second) (flow names variables depth q after tail) last))
    ∙ sym (append_assoc (flow names variables depth (n + 1) next first) (flow names variables depth p next second ++ flow names variables depth q after tail) last) in
    if_step names variables blocks n h ((lines_of first ++ between ∷ (lines_of second ++ close ∷ lines_of tail)) ++ rest)
    ∙ told h.line _ (entry first (n + 1) next) _ (act.If h.expression (entry second p next)) _ _
    (ap (λ ls. onward inner (n + 1) ls) apart ∙ enter inner (n + 1) p next first (between ∷ other) refl across)
    (ap (λ ls. act.If h.expression (beyond inner (n + 1) ls)) apart ∙ ap (λ k. act.If h.expression k) (past_branch inner (n + 1) middle first other ∙ enter inner p q next second (close ∷ behind) refl out))
    (ap (λ ls. statements_from names variables inner (n + 1) ls) apart ∙ (body ∙ joined))
flows names variables blocks n m after (Repeat h body closing tail) rest e goes =
    let close = numbered closing line.End in
    let behind = lines_of tail ++ rest in
    let inner = blocks ++ nest.Loop h.line n ∷ [] in
    let again = n + 1 + size body in
    let next = entry tail (again + 1) after in
    let depth = loops blocks in
    let last = statements_from names variables blocks m rest in
    let back : Statement = record { line = h.line; next = next; act = act.Again depth (n + 1) } in
    let apart = append_assoc (lines_of body) (close ∷ lines_of tail) rest in
    let on : onward blocks (again + 1) behind ≡ next = enter blocks (again + 1) m after tail rest (omega (arith, e)) goes in
    let out : onward inner again (close ∷ behind) ≡ again = end_of_loop blocks h.line n again closing behind in
    let past : beyond inner (n + 2) (lines_of body ++ close ∷ behind) ≡ next =
    past_block blocks (nest.Loop h.line n) (n + 2) closing body behind
    ∙ (ap (λ k. onward blocks k behind) (let same : n + 2 + size body ≡ again + 1 = omega arith in same) ∙ on) in
    let ends : statements_from names variables inner again (close ∷ behind) ≡ back ∷ (flow names variables depth (again + 1) after tail ++ last) =
    repeat_end names variables blocks h.line n again closing behind
    ∙ told h.line _ next (act.Again depth (n + 1)) (act.Again depth (n + 1)) _ _ on refl (flows names variables blocks (again + 1) m after tail rest (omega (arith, e)) goes) in
    let whole : statements_from names variables inner (n + 1) (lines_of body ++ close ∷ behind) ≡ flow names variables (depth + 1) (n + 1) again body ++ back ∷ (flow names variables depth (again + 1) after tail ++ last) =
    in_loops names variables inner (depth + 1) (n + 1) again again body (close ∷ behind) (loops_loop blocks h.line n) (flows names variables inner (n + 1) again again body (close ∷ behind) refl out)
    ∙ ap (λ xs. flow names variables (depth + 1) (n + 1) again body ++ xs) ends in
    repeat_step names variables blocks n h ((lines_of body ++ close ∷ lines_of tail) ++ rest)
    ∙ told h.line _ (n + 1) _ (act.Repeat h.expression depth next) _ _
    (ap (λ ls. onward inner (n + 1) ls) apart ∙ (enter inner (n + 1) again again body (close ∷ behind) refl out ∙ entry_own body (n + 1)))
    (ap (λ ls. act.Repeat h.expression depth (beyond inner (n + 2) ls)) apart ∙ ap (λ k. act.Repeat h.expression depth k) past)
    (ap (λ ls. statements_from names variables inner (n + 1) ls) apart ∙ (whole ∙ sym (append_assoc (flow names variables (depth + 1) (n + 1) again body) (back ∷ flow names variables depth (again + 1) after tail) last)))

-- ---- a callback

-- the `end` of the callback has no statement
over : (names : List Declaration) (variables : List (List ℕ)) (n : ℕ) (closing : NumberedLine) (rest : List NumberedLine) → is_end closing.form ≡ true → statements_from names variables [] n (closing ∷ rest) ≡ []
unfolding statements_from
over names variables n closing rest e = rw e refl

stays : (n : ℕ) (closing : NumberedLine) (rest : List NumberedLine) → is_end closing.form ≡ true → onward [] n (closing ∷ rest) ≡ n
unfolding passed
stays n closing rest e = stop [] (way 0 0 n) closing rest (ending closing.form e)
  where
    ending : (form : SceneLine) → is_end form ≡ true → passed [] (way 0 0 n) form ≡ None
    ending form f = rw f refl

pub statements_flow : (names : List Declaration) (variables : List (List ℕ)) (body : Body) (closing : NumberedLine) (rest : List NumberedLine) → is_end closing.form ≡ true → statements_from names variables [] 0 (lines_of body ++ closing ∷ rest) ≡ flow names variables 0 0 (size body) body
unfolding loops
statements_flow names variables body closing rest e =
    let all : 0 + size body ≡ size body = omega arith in
    flows names variables [] 0 (size body) (size body) body (closing ∷ rest) all (stays (size body) closing rest e)
    ∙ (ap (λ xs. flow names variables 0 0 (size body) body ++ xs) (over names variables (size body) closing rest e) ∙ append-nil (flow names variables 0 0 (size body) body))
