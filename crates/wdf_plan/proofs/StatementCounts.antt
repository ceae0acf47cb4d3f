-- A plan has at most as many statements that count as its scene has lines that are statements.
use Rattle.std.proofs.Common.{◌≡◌, ◌⊎◌, inl, inr, ℕ, zero, suc, ◌+◌, ◌≤◌, Bool, true, false, cond, List, [], ◌∷◌, drop, length, Option, Some, None, option_map, refl, ap, sym, ◌∙◌, arith, drop-drop}
use Rattle.std.proofs.lemmas.List.Sums.{sum_by-cons}
use Rattle.std.specs.Prelude.{◌==◌}
use Rattle.std.specs.Option.{is_some}
use Rattle.std.specs.List.{filter_map, cons_option, sum_by, count_by}
use Rattle.wdf_base.specs.declared.call.Callback.{Callback}
use Rattle.wdf_base.specs.declared.declared.Declared.{Declared}
use Rattle.wdf_base.specs.declared.script.Script.{Script}
use Rattle.wdf_base.specs.declared.script.Statement.{Statement}
use Rattle.wdf_base.specs.Same.{same_option}
use Rattle.wdf_base.specs.Resolved.{counts_as_statement, statement_count}
use Rattle.wdf_scene.specs.declared.line.NumberedLine.{NumberedLine}
use Rattle.wdf_scene.specs.declared.line.SceneLine.{SceneLine}
use Rattle.wdf_scene.specs.declared.line.SceneLine.TheVariants as line
use Rattle.wdf_scene.specs.declared.scene.Scene.{Scene}
use Rattle.wdf_scene.specs.Written.{IsScene}
use Rattle.wdf_plan.specs.declared.course.Nest.{Nest}
use Rattle.wdf_plan.specs.declared.course.Nest.TheVariants as nest
use Rattle.wdf_blocks.specs.declared.declaration.Declaration.{Declaration}
use Rattle.wdf_blocks.specs.declared.placed.Counts.{Counts}
use Rattle.wdf_blocks.specs.declared.placed.Placed.{Placed}
use Rattle.wdf_blocks.specs.declared.placed.Stand.{Stand}
use Rattle.wdf_blocks.specs.Blocks.{depth_after, ends_block}
use Rattle.wdf_blocks.specs.Declarations.{declarations}
use Rattle.wdf_blocks.specs.Forms.{opens, is_end, is_statement}
use Rattle.wdf_refusals.specs.Limits.{exceeds, is_one_too_many}
use Rattle.wdf_blocks.specs.Placed.{outside, nothing, closed, closed_block, counted, opened_by, placed_line, placed_from, placed}
use Rattle.wdf_plan.specs.Plans.{plan_with, plan_of}
use Rattle.wdf_plan.specs.Scripts.{nest_at, again, nests_after, plain_act, act_on, statement_on, statement_at, statements_from, statements_of, number_after, owner_of, script_on}
use Rattle.wdf_blocks.specs.Variables.{variables}
use Rattle.wdf_plan.proofs.Accepted.{IsAccepted}
use Rattle.wdf_plan.proofs.Bodies.{HasBody, every_body}
use Rattle.wdf_plan.proofs.Counting.{bounded, from_zero}
use Rattle.wdf_refusals.proofs.Every.{Every, every_map}
use Rattle.wdf_plan.proofs.InCallbacks.{IsWithin, goes_on, leaves}
use Rattle.wdf_plan.proofs.Nesting.{stands_inside, IsBody, counted_line}
use Rattle.wdf_plan.proofs.Reaching.{body_after, same_end}

-- ---- one line

-- one for a line that is a statement
abbrev one_line : SceneLine → ℕ
one_line form = cond (is_statement form) 1 0

-- one for a statement that counts
abbrev weight : Option Statement → ℕ
weight None = 0
weight (Some s) = cond (counts_as_statement s) 1 0

again_weight : (told next : ℕ) (blocks : List Nest) (o : Option Nest) → weight (option_map (λ a. record { line = told; next = next; act = a }) (again blocks o)) ≡ 0
again_weight told next blocks None = refl
again_weight told next blocks (Some nest.Branch) = refl
again_weight told next blocks (Some (nest.Loop l n)) = refl

act_weight : (told next : ℕ) (names : List Declaration) (variables : List (List ℕ)) (blocks behind : List Nest) (n : ℕ) (form : SceneLine) (rest : List NumberedLine) → weight (option_map (λ a. record { line = told; next = next; act = a }) (act_on names variables blocks behind n form rest)) ≡ one_line form
unfolding act_on plain_act is_statement
act_weight told next names variables blocks behind n line.End rest = again_weight told next blocks (nest_at blocks 0)
act_weight told next names variables blocks behind n _ rest = refl

-- only the end of a `repeat` makes a statement that doesn't count
line_weight : (names : List Declaration) (variables : List (List ℕ)) (blocks : List Nest) (n : ℕ) (l : NumberedLine) (rest : List NumberedLine) → weight (statement_at names variables blocks n l rest) ≡ one_line l.form
unfolding statement_on
line_weight names variables blocks n l rest =
    act_weight _ _ names variables blocks (nests_after blocks n l.number l.form) n l.form rest

-- how many of these statements count
abbrev counting : List Statement → ℕ
counting xs = count_by counts_as_statement xs

counting_cons : (o : Option Statement) (xs : List Statement) → counting (cons_option o xs) ≡ weight o + counting xs
counting_cons None xs = omega arith
counting_cons (Some s) xs = sum_by-cons (λ x. cond (counts_as_statement x) 1 0) s xs

-- ---- the scripts of some lines, and the statements among these lines

abbrev script_weight : Option Script → ℕ
script_weight None = 0
script_weight (Some s) = counting s.statements

abbrev in_scripts : Scene → List Declaration → List Placed → ℕ
in_scripts scene names ps =
    sum_by (λ s. counting s.statements) (filter_map (λ p. script_on scene names p p.form) ps)

abbrev mark : Placed → Option ℕ
mark p = cond (is_statement p.form) (Some p.at) None

abbrev statement_lines : List Placed → ℕ
statement_lines ps = length (filter_map mark ps)

scripts_cons : (o : Option Script) (xs : List Script) → sum_by (λ s. counting s.statements) (cons_option o xs) ≡ script_weight o + sum_by (λ s. counting s.statements) xs
scripts_cons None xs = omega arith
scripts_cons (Some s) xs = sum_by-cons (λ x. counting x.statements) s xs

marks_cons : (b : Bool) (n : ℕ) (xs : List ℕ) → length (cons_option (cond b (Some n) None) xs) ≡ cond b 1 0 + length xs
marks_cons true n xs = omega arith
marks_cons false n xs = omega arith

-- what one line adds
abbrev Adds : Scene → List Declaration → Placed → List Placed → Type 0
Adds scene names p ps =
    (in_scripts scene names (p ∷ ps) ≡ script_weight (script_on scene names p p.form) + in_scripts scene names ps)
    × (statement_lines (p ∷ ps) ≡ one_line p.form + statement_lines ps)

adds : (scene : Scene) (names : List Declaration) (p : Placed) (ps : List Placed) → Adds scene names p ps
adds scene names p ps =
    (scripts_cons (script_on scene names p p.form) (filter_map (λ q. script_on scene names q q.form) ps), marks_cons (is_statement p.form) p.at (filter_map mark ps))

-- a line of a callback begins no script
no_script : (scene : Scene) (names : List Declaration) (p : Placed) (depth : ℕ) (form : SceneLine) → (ends_block depth form ≡ true) ⊎ (stands_inside depth form ≡ true) → script_weight (script_on scene names p form) ≡ 0
unfolding script_on opens is_end
no_script scene names p zero (line.On c) (inl e) = absurd (let z : ⊥ = cc in z)
no_script scene names p (suc d) (line.On c) (inl e) = absurd (let z : ⊥ = cc in z)
no_script scene names p depth (line.On c) (inr e) = absurd (let z : ⊥ = cc in z)
no_script scene names p depth _ e = refl

owner_weight : (o : Option Declared) (c : Callback) (number : ℕ) (statements : List Statement) → script_weight (option_map (λ d. record { callback = c; owner = d; line = number; statements = statements }) o) ≤ counting statements
owner_weight None c number statements = omega arith
owner_weight (Some d) c number statements = omega arith

-- ---- all lines

-- the statements of the scripts from one line on, and of the callback that is open there, are at most as many as the lines
record AreFewer (scene : Scene) (names : List Declaration) (o : Stand) (ls : List NumberedLine) (ps : List Placed) : Type 0 where
  outside' : o.callback ≡ None → in_scripts scene names ps ≤ statement_lines ps
  inside : (k : ℕ) (variables : List (List ℕ)) (blocks : List Nest) (n : ℕ) → IsWithin o k (length blocks) → IsBody (length blocks) ls → counting (statements_from names variables blocks n ls) + in_scripts scene names ps ≤ statement_lines ps

-- an `end` in no callback begins none
closed_none : (o : Stand) (b : Bool) → o.callback ≡ None → (cond b outside (record o { block = o.device })).callback ≡ None
closed_none o true e = refl
closed_none o false e = e

end_none : (o : Stand) → o.callback ≡ None → (closed o).callback ≡ None
end_none o e =
    let c : closed o ≡ closed_block o = rw e refl in
    ap (λ (x : Stand). x.callback) c ∙ closed_none o (same_option ◌==◌ o.block o.device) e

-- a line in no callback
outside_line : (scene : Scene) (names : List Declaration) (p : Placed) (form : SceneLine) (ls : List NumberedLine) (ps : List Placed) → drop (suc p.at) scene.lines ≡ ls → ((c : Callback) → form ≡ line.On c → IsBody 0 ls) → p.stand.callback ≡ None → AreFewer scene names (opened_by p.stand p.at form) ls ps → script_weight (script_on scene names p form) + in_scripts scene names ps ≤ one_line form + statement_lines ps
unfolding script_on is_statement opened_by statements_of
outside_line scene names p (line.On c) ls ps behind body e h =
    let variables' = variables scene p.at in
    let own : counting (statements_from names variables' [] 0 ls) + in_scripts scene names ps ≤ statement_lines ps = h.inside p.at variables' [] 0 (record { callback = refl; nested = refl }) (body c refl) in
    let all : counting (statements_from names variables' [] 0 (drop (suc p.at) scene.lines)) ≡ counting (statements_from names variables' [] 0 ls) = ap (λ xs. counting (statements_from names variables' [] 0 xs)) behind in
    let less = owner_weight (owner_of scene names p p.stand.block) c p.number (statements_from names variables' [] 0 (drop (suc p.at) scene.lines)) in
    omega (arith, own, all, less)
outside_line scene names p line.End ls ps behind body e h =
    let rest = h.outside' (end_none p.stand e) in
    omega (arith, rest)
outside_line scene names p _ ls ps behind body e h =
    let rest = h.outside' e in
    omega (arith, rest)

-- a line of a callback
inside_line : (scene : Scene) (names : List Declaration) (j : ℕ) (o : Stand) (c : Counts) (l : NumberedLine) (ls : List NumberedLine) (ps : List Placed) (k : ℕ) (variables : List (List ℕ)) (blocks : List Nest) (n : ℕ) → AreFewer scene names (opened_by o j l.form) ls ps → IsWithin o k (length blocks) → IsBody (length blocks) (l ∷ ls) → counting (statements_from names variables blocks n (l ∷ ls)) + in_scripts scene names (placed_line j o c l ∷ ps) ≤ statement_lines (placed_line j o c l ∷ ps)
unfolding statements_from
inside_line scene names j o c l ls ps k variables blocks n h w (inl ends) =
    let p = placed_line j o c l in
    let a = adds scene names p ps in
    let begins = no_script scene names p (length blocks) l.form (inl ends) in
    let over : statements_from names variables blocks n (l ∷ ls) ≡ [] = rw (same_end (length blocks) l.form, ends) refl in
    let rest = h.outside' (leaves o k j (length blocks) l.form w ends) in
    rw over (omega (arith, a.0, a.1, begins, rest))
inside_line scene names j o c l ls ps k variables blocks n h w (inr body) =
    let p = placed_line j o c l in
    let a = adds scene names p ps in
    let begins = no_script scene names p (length blocks) l.form (inr body.1) in
    let behind = nests_after blocks n l.number l.form in
    let m = number_after n (statement_at names variables blocks n l ls) in
    let more : statements_from names variables blocks n (l ∷ ls) ≡ cons_option (statement_at names variables blocks n l ls) (statements_from names variables behind m ls) = rw (same_end (length blocks) l.form, body.0) refl in
    let deep = (counted_line names variables blocks n l ls body.0 body.1).depth in
    let within : IsWithin (opened_by o j l.form) k (length behind) = rw deep (goes_on o k j (length blocks) l.form w body.0 body.1) in
    let rest = h.inside k variables behind m within (body_after (depth_after (length blocks) l.form) (length behind) ls deep body.2) in
    let all = counting_cons (statement_at names variables blocks n l ls) (statements_from names variables behind m ls) in
    let here = line_weight names variables blocks n l ls in
    rw more (omega (arith, a.0, a.1, begins, rest, all, here))

fewer_from : (scene : Scene) (names : List Declaration) (j : ℕ) (o : Stand) (c : Counts) (ls : List NumberedLine) → drop j scene.lines ≡ ls → Every (HasBody scene) (placed_from j o c ls) → AreFewer scene names o ls (placed_from j o c ls)
unfolding placed_from
fewer_from scene names j o c [] e bodies =
    record { outside' = λ none'. omega arith; inside = λ k variables blocks n w body. absurd body }
fewer_from scene names j o c (l ∷ ls) e bodies =
    let p = placed_line j o c l in
    let ps = placed_from (suc j) (opened_by o j l.form) (counted c l.form (length l.picks)) ls in
    let one : suc j ≡ j + 1 = omega arith in
    let next : drop (suc j) scene.lines ≡ ls = rw one (sym (drop-drop 1 j scene.lines) ∙ ap (λ xs. drop 1 xs) e) in
    let h = fewer_from scene names (suc j) (opened_by o j l.form) (counted c l.form (length l.picks)) ls next bodies.1 in
    let a = adds scene names p ps in
    record {
      outside' = λ none'.
          let here = outside_line scene names p l.form ls ps next (λ callback is. rw (← next) (bodies.0 callback is)) none' h in
          omega (arith, a.0, a.1, here);
      inside = λ k variables blocks n w body. inside_line scene names j o c l ls ps k variables blocks n h w body;
    }

statements_within : (scene : Scene) (p : Placed) → IsAccepted scene p → is_one_too_many (is_statement p.form) 4096 p.counts.statements ≡ false
unfolding exceeds
statements_within scene p a = a.within.1.1.1.1.1.1.1.0

marked : (b : Bool) (n : ℕ) → is_some (cond b (Some n) None) ≡ b
marked true n = refl
marked false n = refl

lines_bound : (scene : Scene) → Every (IsAccepted scene) (placed scene) → statement_lines (placed scene) ≤ 4096
unfolding placed counted
lines_bound scene each =
    from_zero _ _ _ refl (bounded is_statement (λ c. c.statements) mark 4096 (λ c f n. refl) (λ p. marked (is_statement p.form) p.at) 0 outside nothing scene.lines (omega arith) (every_map (IsAccepted scene) (λ p. is_one_too_many (is_statement p.form) 4096 p.counts.statements ≡ false) (statements_within scene) (placed scene) each))

scripts_fewer : (scene : Scene) (names : List Declaration) → IsScene scene → in_scripts scene names (placed scene) ≤ statement_lines (placed scene)
unfolding placed
scripts_fewer scene names s =
    (fewer_from scene names 0 outside nothing scene.lines refl (every_body scene s)).outside' refl

pub statements_bound : (scene : Scene) → IsScene scene → Every (IsAccepted scene) (placed scene) → statement_count (plan_of scene) ≤ 4096
unfolding plan_of plan_with
statements_bound scene s each =
    let fewer : statement_count (plan_of scene) ≤ statement_lines (placed scene) = scripts_fewer scene (declarations scene) s in
    let bound = lines_bound scene each in
    omega (arith, fewer, bound)
