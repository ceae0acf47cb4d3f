-- A way through the statements of a callback leads to one of them, or to their end.
use Rattle.std.proofs.Common.{◌≡◌, inl, inr, ℕ, zero, suc, ◌+◌, ◌-◌, ◌<◌, ◌≤◌, Bool, true, false, cond, ◌&&◌, nat_lt, List, [], ◌∷◌, length, Option, Some, None, refl, ap, sym, subst, ◌∙◌, arith}
use Rattle.std.specs.Prelude.{◌==◌}
use Rattle.std.specs.List.{cons_option}
use Rattle.std.proofs.lemmas.Bool.{eqb-true, eqb-false, eq-eqb, ne_eqb, ltb-true, le-ltb, and_right}
use Rattle.std.proofs.lemmas.List.Sums.{count_by-le-length}
use Rattle.std.proofs.Math.Bool.{and-true}
use Rattle.wdf_base.specs.declared.script.Statement.{Statement}
use Rattle.wdf_scene.specs.declared.line.NumberedLine.{NumberedLine}
use Rattle.wdf_scene.specs.declared.line.SceneLine.{SceneLine}
use Rattle.wdf_scene.specs.declared.line.SceneLine.TheVariants as line
use Rattle.wdf_plan.specs.declared.course.Course.{Course}
use Rattle.wdf_plan.specs.declared.course.Nest.{Nest}
use Rattle.wdf_blocks.specs.declared.declaration.Declaration.{Declaration}
use Rattle.wdf_blocks.specs.Blocks.{depth_after, ends_block}
use Rattle.wdf_blocks.specs.Forms.{opens, is_end}
use Rattle.wdf_plan.specs.Scripts.{nest_at, is_branch, is_else, going, skipping, passed, reach, loops, is_loop, nests_after, statement_at, statements_from, number_after, statements_in}
use Rattle.wdf_plan.proofs.Nesting.{stands_inside, IsBody, IsCounted, open_before, counted_line}

-- 1 while blocks are passed over
abbrev pub skips : ℕ → ℕ
skips k = k - (k - 1)

-- a way that began in the blocks `start` is at a line before which `blocks` are open and the next statement has number n.
-- While blocks are passed over, they are the innermost one of `start` that the way hasn't left, and those in it. The
-- number of the way is at most n and one for each open `repeat`, whose end is a statement.
pub record IsAlong (start : List Nest) (way : Course) (blocks : List Nest) (n : ℕ) : Type 0 where
  pub number : way.number ≤ n + loops blocks
  pub depth : length blocks + way.left + skips way.skipping ≡ length start + way.skipping
  pub inside : way.left + skips way.skipping ≤ length start

-- ---- one line

same_way : (start : List Nest) (a b : Course) (blocks : List Nest) (n : ℕ) → Some a ≡ Some b → IsAlong start a blocks n → IsAlong start b blocks n
same_way start a b blocks n e h = let same : a ≡ b = cc in subst (λ w. IsAlong start w blocks n) same h

-- an `end` on the way
go_out : (start : List Nest) (way next : Course) (blocks behind : List Nest) (n m : ℕ) (branch : Bool) → IsAlong start way blocks n → way.skipping ≡ 0 → length behind + 1 ≡ length blocks → m + loops behind ≡ n + loops blocks + 0 → cond branch (Some (record way { left = way.left + 1 })) None ≡ Some next → IsAlong start next behind m
go_out start way next blocks behind n m true h none' deep adds e =
    let a = h.number in
    let b = h.depth in
    same_way start _ next behind m e (record { number = omega arith; depth = omega arith; inside = omega arith })
go_out start way next blocks behind n m false h none' deep adds e = absurd (let z : ⊥ = cc in z)

-- an `end` in what is passed over
skip_out : (start : List Nest) (way next : Course) (blocks behind : List Nest) (n m : ℕ) (last : Bool) → IsAlong start way blocks n → (way.skipping ≡ 0 → ⊥) → length behind + 1 ≡ length blocks → m + loops behind ≡ n + loops blocks + 0 → (way.skipping == 1) ≡ last → Some (record way { skipping = way.skipping - 1; left = cond last (way.left + 1) way.left }) ≡ Some next → IsAlong start next behind m
skip_out start way next blocks behind n m true h some' deep adds is e =
    let a = h.number in
    let b = h.depth in
    let one = eqb-true way.skipping 1 is in
    same_way start _ next behind m e (record { number = omega arith; depth = omega arith; inside = omega arith })
skip_out start way next blocks behind n m false h some' deep adds is e =
    let a = h.number in
    let b = h.depth in
    let c = h.inside in
    let more = eqb-false way.skipping 1 is in
    same_way start _ next behind m e (record { number = omega arith; depth = omega arith; inside = omega arith })

-- an `else` in what is passed over
skip_else : (start : List Nest) (way next : Course) (blocks behind : List Nest) (n m : ℕ) (last : Bool) → IsAlong start way blocks n → (way.skipping ≡ 0 → ⊥) → length behind ≡ length blocks → m + loops behind ≡ n + loops blocks + 0 → (way.skipping == 1) ≡ last → Some (cond last (record way { skipping = 0 }) (record way { number = way.number + 0 })) ≡ Some next → IsAlong start next behind m
skip_else start way next blocks behind n m true h some' deep adds is e =
    let a = h.number in
    let b = h.depth in
    let c = h.inside in
    let one = eqb-true way.skipping 1 is in
    same_way start _ next behind m e (record { number = omega arith; depth = omega arith; inside = omega arith })
skip_else start way next blocks behind n m false h some' deep adds is e =
    let a = h.number in
    let b = h.depth in
    let c = h.inside in
    same_way start _ next behind m e (record { number = omega arith; depth = omega arith; inside = omega arith })

-- another line in what is passed over
skip_line : (start : List Nest) (way next : Course) (blocks behind : List Nest) (n m more : ℕ) (opening : Bool) → IsAlong start way blocks n → (way.skipping ≡ 0 → ⊥) → length behind ≡ cond opening (suc (length blocks)) (length blocks) → m + loops behind ≡ n + loops blocks + more → Some (record way { skipping = cond opening (way.skipping + 1) way.skipping; number = way.number + more }) ≡ Some next → IsAlong start next behind m
skip_line start way next blocks behind n m more true h some' deep adds e =
    let a = h.number in
    let b = h.depth in
    let c = h.inside in
    same_way start _ next behind m e (record { number = omega arith; depth = omega arith; inside = omega arith })
skip_line start way next blocks behind n m more false h some' deep adds e =
    let a = h.number in
    let b = h.depth in
    let c = h.inside in
    same_way start _ next behind m e (record { number = omega arith; depth = omega arith; inside = omega arith })

pass_end : (start : List Nest) (way next : Course) (blocks behind : List Nest) (n m : ℕ) (here : Bool) → IsAlong start way blocks n → IsCounted blocks behind n m line.End → 0 < length blocks → (way.skipping == 0) ≡ here → cond here (going start way line.End) (Some (skipping way line.End)) ≡ Some next → IsAlong start next behind m
unfolding is_end is_else opens statements_in
pass_end start way next blocks behind n m true h c some' is e =
    let deep = c.depth in
    go_out start way next blocks behind n m (is_branch (nest_at start way.left)) h (eqb-true way.skipping 0 is) (omega arith) c.number e
pass_end start way next blocks behind n m false h c some' is e =
    let deep = c.depth in
    skip_out start way next blocks behind n m (way.skipping == 1) h (eqb-false way.skipping 0 is) (omega arith) c.number refl e

pass_else : (start : List Nest) (way next : Course) (blocks behind : List Nest) (n m : ℕ) (here : Bool) → IsAlong start way blocks n → IsCounted blocks behind n m line.Else → 0 < length blocks → (way.skipping == 0) ≡ here → cond here (going start way line.Else) (Some (skipping way line.Else)) ≡ Some next → IsAlong start next behind m
unfolding is_end is_else opens statements_in
pass_else start way next blocks behind n m true h c some' is e =
    let a = h.number in
    let b = h.depth in
    let adds = c.number in
    let deep = c.depth in
    let none' = eqb-true way.skipping 0 is in
    same_way start _ next behind m e (record { number = omega arith; depth = omega arith; inside = omega arith })
pass_else start way next blocks behind n m false h c some' is e =
    skip_else start way next blocks behind n m (way.skipping == 1) h (eqb-false way.skipping 0 is) c.depth c.number refl e

pass_other : (start : List Nest) (way next : Course) (blocks behind : List Nest) (n m : ℕ) (form : SceneLine) (here : Bool) → is_end form ≡ false → is_else form ≡ false → IsAlong start way blocks n → IsCounted blocks behind n m form → (way.skipping == 0) ≡ here → cond here (going start way form) (Some (skipping way form)) ≡ Some next → IsAlong start next behind m
pass_other start way next blocks behind n m form true no_end no_else h c is e =
    let stops : going start way form ≡ None = rw (no_end, no_else) refl in
    absurd (let z : ⊥ = cc in z)
pass_other start way next blocks behind n m form false no_end no_else h c is e =
    let deep : length behind ≡ cond (opens form) (suc (length blocks)) (length blocks) = c.depth ∙ rw no_end refl in
    let goes : skipping way form ≡ record way { skipping = cond (opens form) (way.skipping + 1) way.skipping; number = way.number + statements_in form } = rw (no_end, no_else) refl in
    skip_line start way next blocks behind n m (statements_in form) (opens form) h (eqb-false way.skipping 0 is) deep c.number (sym (ap Some goes) ∙ e)

pass_line : (start : List Nest) (way next : Course) (blocks behind : List Nest) (n m : ℕ) (form : SceneLine) → IsAlong start way blocks n → IsCounted blocks behind n m form → ends_block (length blocks) form ≡ false → stands_inside (length blocks) form ≡ true → passed start way form ≡ Some next → IsAlong start next behind m
unfolding passed is_end is_else
pass_line start way next blocks behind n m line.End h c ends may e =
    pass_end start way next blocks behind n m (way.skipping == 0) h c (open_before (length blocks) ends) refl e
pass_line start way next blocks behind n m line.Else h c ends may e =
    pass_else start way next blocks behind n m (way.skipping == 0) h c (ltb-true 0 (length blocks) may) refl e
pass_line start way next blocks behind n m form h c ends may e =
    pass_other start way next blocks behind n m form (way.skipping == 0) refl refl h c refl e

-- ---- where the statements of a callback end

-- the number after the last statement
abbrev pub end_from : List Declaration → List (List ℕ) → List Nest → ℕ → List NumberedLine → ℕ
end_from names variables blocks n ls = n + length (statements_from names variables blocks n ls)

record IsEnding (d : ℕ) (form : SceneLine) : Type 0 where
  closes : is_end form ≡ true
  alone : d ≡ 0

ending : (d : ℕ) (form : SceneLine) → ends_block d form ≡ true → IsEnding d form
ending zero form e = record { closes = e; alone = refl }
ending (suc d) form e = absurd (let z : ⊥ = cc in z)

pub same_end : (d : ℕ) (form : SceneLine) → (is_end form && (d == 0)) ≡ ends_block d form
same_end zero form = and-true (is_end form)
same_end (suc d) form = and_right (is_end form) (suc d == 0) (ne_eqb (suc d) 0 (λ e. absurd (omega arith)))

end_here : (names : List Declaration) (variables : List (List ℕ)) (blocks : List Nest) (n : ℕ) (l : NumberedLine) (ls : List NumberedLine) → ends_block (length blocks) l.form ≡ true → end_from names variables blocks n (l ∷ ls) ≡ n
unfolding statements_from
end_here names variables blocks n l ls e =
    rw (same_end (length blocks) l.form, e) (omega arith)

total_step : (n : ℕ) (o : Option Statement) (ss : List Statement) → n + length (cons_option o ss) ≡ number_after n o + length ss
total_step n None ss = refl
total_step n (Some s) ss = omega arith

pub end_later : (names : List Declaration) (variables : List (List ℕ)) (blocks : List Nest) (n : ℕ) (l : NumberedLine) (ls : List NumberedLine) → ends_block (length blocks) l.form ≡ false → end_from names variables blocks n (l ∷ ls) ≡ end_from names variables (nests_after blocks n l.number l.form) (number_after n (statement_at names variables blocks n l ls)) ls
unfolding statements_from
end_later names variables blocks n l ls e =
    rw (same_end (length blocks) l.form, e) (total_step n (statement_at names variables blocks n l ls) (statements_from names variables (nests_after blocks n l.number l.form) (number_after n (statement_at names variables blocks n l ls)) ls))

pub body_after : (d e : ℕ) (ls : List NumberedLine) → e ≡ d → IsBody d ls → IsBody e ls
body_after d e ls same h = subst (λ x. IsBody x ls) (sym same) h

pub loops_few : (blocks : List Nest) → loops blocks ≤ length blocks
unfolding loops
loops_few blocks = count_by-le-length is_loop blocks

-- what is open has its ends among the lines
open_within : (names : List Declaration) (variables : List (List ℕ)) (blocks : List Nest) (n : ℕ) (ls : List NumberedLine) → IsBody (length blocks) ls → n + loops blocks ≤ end_from names variables blocks n ls
open_within names variables blocks n [] h = absurd h
open_within names variables blocks n (l ∷ ls) (inl ends) =
    let few = loops_few blocks in
    let alone = (ending (length blocks) l.form ends).alone in
    let here = end_here names variables blocks n l ls ends in
    omega arith
open_within names variables blocks n (l ∷ ls) (inr h) =
    let c = counted_line names variables blocks n l ls h.0 h.1 in
    let adds = c.number in
    let rest = open_within names variables (nests_after blocks n l.number l.form) (number_after n (statement_at names variables blocks n l ls)) ls (body_after (depth_after (length blocks) l.form) _ ls c.depth h.2) in
    let later = end_later names variables blocks n l ls h.0 in
    omega arith

-- the way ends with the callback
stops_at_end : (start : List Nest) (way : Course) (blocks : List Nest) (n : ℕ) (form : SceneLine) → IsAlong start way blocks n → IsEnding (length blocks) form → passed start way form ≡ None
unfolding passed
stops_at_end start way blocks n form h ends =
    let a = h.depth in
    let b = h.inside in
    let c = ends.alone in
    let still : (way.skipping == 0) ≡ true = eq-eqb way.skipping 0 (omega arith) in
    let none_left : nat_lt way.left (length start) ≡ false = le-ltb way.left (length start) (omega arith) in
    rw (still, ends.closes, none_left) refl

way_step : (start : List Nest) (way : Course) (ls : List NumberedLine) (bound : ℕ) (o : Option Course) → way.number ≤ bound → ((next : Course) → o ≡ Some next → reach start next ls ≤ bound) → elim o as (λ _. ℕ) [ None ↦ way.number | Some t ↦ reach start t ls ] ≤ bound
way_step start way ls bound None here goes = here
way_step start way ls bound (Some next) here goes = goes next refl

pub reach_within : (names : List Declaration) (variables : List (List ℕ)) (start : List Nest) (way : Course) (blocks : List Nest) (n : ℕ) (ls : List NumberedLine) → IsAlong start way blocks n → IsBody (length blocks) ls → reach start way ls ≤ end_from names variables blocks n ls
unfolding reach
reach_within names variables start way blocks n [] along h = absurd h
reach_within names variables start way blocks n (l ∷ ls) along (inl ends) =
    let few = loops_few blocks in
    let over = ending (length blocks) l.form ends in
    let alone = over.alone in
    let number = along.number in
    let here = end_here names variables blocks n l ls ends in
    let stops = stops_at_end start way blocks n l.form along over in
    let low : way.number ≤ n = omega arith in
    rw here (way_step start way ls n (passed start way l.form) low (λ next e. absurd (let z : ⊥ = cc in z)))
reach_within names variables start way blocks n (l ∷ ls) along (inr h) =
    let c = counted_line names variables blocks n l ls h.0 h.1 in
    let behind = nests_after blocks n l.number l.form in
    let m = number_after n (statement_at names variables blocks n l ls) in
    let body = body_after (depth_after (length blocks) l.form) (length behind) ls c.depth h.2 in
    let within = open_within names variables blocks n (l ∷ ls) (inr h) in
    let number = along.number in
    let low : way.number ≤ end_from names variables behind m ls = let later = end_later names variables blocks n l ls h.0 in omega arith in
    rw (end_later names variables blocks n l ls h.0) (way_step start way ls (end_from names variables behind m ls) (passed start way l.form) low (λ next e. reach_within names variables start next behind m ls (pass_line start way next blocks behind n m l.form along c h.0 h.1 e) body))
