-- The statements of a callback, written out again, are the statement lines of its block.
use Rattle.std.proofs.Common.{◌≡◌, inl, inr, ℕ, zero, suc, Bool, true, false, cond, ◌&&◌, ◌||◌, List, [], ◌∷◌, ◌++◌, length, drop, get_or, Option, Some, None, option_map, refl, ap, sym, ◌∙◌, arith}
use Rattle.std.proofs.lemmas.Bool.{or_parts, not-false, ne_eqb}
use Rattle.std.proofs.lemmas.List.Folds.{list_any-append}
use Rattle.std.proofs.lemmas.List.Quantifiers.{position-Some}
use Rattle.std.proofs.lemmas.Option.{unwrap_or-slice_get}
use Rattle.std.proofs.lemmas.Slice.Eq.{bytes_eq-Decides}
use Rattle.std.specs.Prelude.{option_and_then, position, ◌==◌}
use Rattle.std.specs.List.{filter_map, cons_option, list_any}
use Rattle.std.specs.Option.{is_some, unwrap_or}
use Rattle.std.specs.Str.{bytes_eq}
use Rattle.wdf_base.specs.declared.plan.Plan.{Plan}
use Rattle.wdf_base.specs.declared.signature.Sort.{Sort}
use Rattle.wdf_base.specs.declared.signature.Sort.TheVariants as sort
use Rattle.wdf_base.specs.Calls.{signature_of}
use Rattle.wdf_scene.specs.declared.line.NumberedLine.{NumberedLine}
use Rattle.wdf_scene.specs.declared.line.SceneArg.{SceneArg}
use Rattle.wdf_scene.specs.declared.line.SceneArg.TheVariants as arg
use Rattle.wdf_scene.specs.declared.line.SceneLine.{SceneLine}
use Rattle.wdf_scene.specs.declared.line.SceneLine.TheVariants as line
use Rattle.wdf_scene.specs.declared.scene.Scene.{Scene}
use Rattle.wdf_plan.specs.declared.course.Nest.{Nest}
use Rattle.wdf_plan.specs.declared.course.Nest.TheVariants as nest
use Rattle.wdf_blocks.specs.declared.declaration.Wanted.TheVariants as wanted
use Rattle.wdf_blocks.specs.declared.placed.Counts.{Counts}
use Rattle.wdf_blocks.specs.declared.placed.Stand.{Stand}
use Rattle.wdf_blocks.specs.Blocks.{depth_after, ends_block}
use Rattle.wdf_blocks.specs.Declarations.{declarations, stands}
use Rattle.wdf_refusals.specs.First.{first_refusal}
use Rattle.wdf_plan.specs.Flow.{numbered}
use Rattle.wdf_blocks.specs.Forms.{is_end, is_statement, assigned_name}
use Rattle.wdf_blocks.specs.Placed.{opened_by, counted, placed_from, placed, outside, nothing}
use Rattle.wdf_plan.specs.Plans.{plan_of}
use Rattle.wdf_refusals.specs.Rows.{unknown_word, unknown_argument, unknown_class}
use Rattle.wdf_plan.specs.Scripts.{variable_of, answer_place, class_number, argument_of, plain_act, nest_at, again, act_on, told_line, nests_after, statement_on, statement_at, number_after, ends_callback, statements_from, statements_of}
use Rattle.wdf_blocks.specs.Variables.{with_name, with_assigned, assigned_from, variables, variable_number}
use Rattle.wdf_plan.proofs.Accepted.{word_known}
use Rattle.wdf_refusals.proofs.Every.{Every, every_map}
use Rattle.wdf_plan.proofs.Gathered.{place_there}
use Rattle.wdf_plan.proofs.Nesting.{stands_inside, IsBody, counted_line}
use Rattle.law_plan.specs.Told.{kept_line, lines_that, until_end, block_lines}
use Rattle.law_plan.specs.WrittenOut.{variable_text, argument_text, statement_line}
use Rattle.law_plan.proofs.ItemLines.{IsRow, rows}
use Rattle.law_plan.proofs.NameTexts.{register_told, needs_register, class_told}

-- ---- variables

place_step : (vs : List (List ℕ)) (x : List ℕ) (o : Option ℕ) → position (bytes_eq x) vs ≡ o → is_some o ≡ true → variable_text vs (unwrap_or o 0) ≡ x
place_step vs x None e h = absurd (let z : ⊥ = cc in z)
place_step vs x (Some v) e h =
    let there = (position-Some (bytes_eq x) vs v [] e).1 in
    unwrap_or-slice_get vs v [] ∙ sym ((bytes_eq-Decides x (get_or vs v [])).0 there)

-- the number of a variable stands for its name
pub variable_told : (vs : List (List ℕ)) (x : List ℕ) → list_any (bytes_eq x) vs ≡ true → variable_text vs (variable_of vs x) ≡ x
unfolding variable_of variable_number
variable_told vs x h = place_step vs x (position (bytes_eq x) vs) refl (place_there (bytes_eq x) vs h)

pub number_told : (vs : List (List ℕ)) (x : List ℕ) (v : ℕ) → variable_number vs x ≡ Some v → variable_text vs v ≡ x
unfolding variable_number
number_told vs x v e = place_step vs x (Some v) e refl

same_bytes : (n : List ℕ) → bytes_eq n n ≡ true
same_bytes n = (bytes_eq-Decides n n).1 refl

new_step : (x : List ℕ) (names : List (List ℕ)) (b : Bool) → list_any (bytes_eq x) names ≡ b → list_any (bytes_eq x) (cond b names (names ++ x ∷ [])) ≡ true
new_step x names true e = e
new_step x names false e = list_any-append (bytes_eq x) names (x ∷ []) ∙ rw (e, same_bytes x) refl

-- an assigned name is a variable
new_there : (x : List ℕ) (names : List (List ℕ)) → list_any (bytes_eq x) (with_name names x) ≡ true
new_there x names = new_step x names (list_any (bytes_eq x) names) refl

kept_step : (x y : List ℕ) (names : List (List ℕ)) (b : Bool) → list_any (bytes_eq x) names ≡ true → list_any (bytes_eq x) (cond b names (names ++ y ∷ [])) ≡ true
kept_step x y names true h = h
kept_step x y names false h = list_any-append (bytes_eq x) names (y ∷ []) ∙ rw h refl

kept_with : (x : List ℕ) (names : List (List ℕ)) (o : Option (List ℕ)) → list_any (bytes_eq x) names ≡ true → list_any (bytes_eq x) (with_assigned names o) ≡ true
kept_with x names None h = h
kept_with x names (Some y) h = kept_step x y names (list_any (bytes_eq y) names) h

kept_from_step : (x : List ℕ) (names more : List (List ℕ)) (b : Bool) → list_any (bytes_eq x) names ≡ true → list_any (bytes_eq x) more ≡ true → list_any (bytes_eq x) (cond b names more) ≡ true
kept_from_step x names more true h g = h
kept_from_step x names more false h g = g

-- it stays one
kept_from : (x : List ℕ) (names : List (List ℕ)) (depth : ℕ) (ls : List NumberedLine) → list_any (bytes_eq x) names ≡ true → list_any (bytes_eq x) (assigned_from names depth ls) ≡ true
unfolding assigned_from
kept_from x names depth [] h = h
kept_from x names depth (l ∷ ls) h =
    kept_from_step x names (assigned_from (with_assigned names (assigned_name l.form)) (depth_after depth l.form) ls) (ends_block depth l.form) h (kept_from x (with_assigned names (assigned_name l.form)) (depth_after depth l.form) ls (kept_with x names (assigned_name l.form) h))

-- the names that a line assigns are variables
abbrev Assigns : List (List ℕ) → Option (List ℕ) → Type 0
Assigns vs o = (x : List ℕ) → o ≡ Some x → variable_text vs (variable_of vs x) ≡ x

assigns : (vs names : List (List ℕ)) (o : Option (List ℕ)) (depth : ℕ) (ls : List NumberedLine) → vs ≡ assigned_from (with_assigned names o) depth ls → Assigns vs o
assigns vs names o depth ls e x is =
    let there : list_any (bytes_eq x) (with_assigned names o) ≡ true = rw is (new_there x names) in
    variable_told vs x (rw e (kept_from x (with_assigned names o) depth ls there))

-- ---- one line

argument_told : (scene : Scene) → first_refusal scene ≡ None → (s : Sort) (a : SceneArg) → unknown_argument (declarations scene) s a ≡ false → argument_text (plan_of scene) (argument_of (declarations scene) s a) ≡ a
unfolding argument_of unknown_argument unknown_class class_number
argument_told scene e s arg.NoArgument h = refl
argument_told scene e s (arg.Expression x) h = refl
argument_told scene e (sort.Class k) (arg.OfClass n) h =
    ap (λ m. arg.OfClass m) (class_told scene e n k (not-false (stands (declarations scene) n (wanted.ClassOf k)) h))
argument_told scene e _ (arg.OfClass n) h = absurd (let z : ⊥ = cc in z)

answer_told : (vs : List (List ℕ)) (into : Option (List ℕ)) → Assigns vs into → option_map (variable_text vs) (answer_place vs into) ≡ into
answer_told vs None h = refl
answer_told vs (Some x) h = ap (λ n. Some n) (h x refl)

-- the end of a `repeat` is no line of its own
again_row : (plan : Plan) (vs : List (List ℕ)) (blocks : List Nest) (told next : ℕ) (o : Option Nest) → option_and_then (statement_line plan vs) (option_map (λ a. record {
  line = told;
  next = next;
  act = a;
}) (again blocks o)) ≡ None
again_row plan vs blocks told next None = refl
again_row plan vs blocks told next (Some nest.Branch) = refl
again_row plan vs blocks told next (Some (nest.Loop l n)) = refl

statement_row : (scene : Scene) → first_refusal scene ≡ None → (vs : List (List ℕ)) (blocks behind : List Nest) (n next : ℕ) (device : Option ℕ) (l : NumberedLine) (form : SceneLine) (rest : List NumberedLine) → unknown_word (declarations scene) device form ≡ false → Assigns vs (assigned_name form) → option_and_then (statement_line (plan_of scene) vs) (option_map (λ a. record {
  line = told_line blocks l.number form;
  next = next;
  act = a;
}) (act_on (declarations scene) vs blocks behind n form rest)) ≡ kept_line is_statement l.number form
unfolding act_on plain_act told_line is_end is_statement assigned_name unknown_word
statement_row scene e vs blocks behind n next device l (line.Let x v) rest u a =
    ap (λ m. Some (numbered l.number (line.Let m v))) (a x refl)
statement_row scene e vs blocks behind n next device l (line.Get x r) rest u a =
    rw (a x refl, register_told scene e r wanted.Register needs_register (not-false (stands (declarations scene) r wanted.Register) u)) refl
statement_row scene e vs blocks behind n next device l (line.Put r v) rest u a =
    ap (λ m. Some (numbered l.number (line.Put m v))) (register_told scene e r wanted.Register needs_register (not-false (stands (declarations scene) r wanted.Register) u))
statement_row scene e vs blocks behind n next device l (line.Call k into x y z) rest u a =
    let names = declarations scene in
    let s = signature_of k in
    let first = or_parts (unknown_argument names s.a x) (unknown_argument names s.b y || unknown_argument names s.c z) u in
    let second = or_parts (unknown_argument names s.b y) (unknown_argument names s.c z) first.1 in
    rw (answer_told vs into a, argument_told scene e s.a x first.0, argument_told scene e s.b y second.0, argument_told scene e s.c z second.1) refl
statement_row scene e vs blocks behind n next device l line.End rest u a =
    again_row (plan_of scene) vs blocks _ _ (nest_at blocks 0)
statement_row scene e vs blocks behind n next device l _ rest u a = refl

-- ---- the lines of a callback

-- the names of a line are known
record IsKnownForm (scene : Scene) (form : SceneLine) : Type 0 where
  device : Option ℕ
  known : unknown_word (declarations scene) device form ≡ false

both_none : (b : Bool) → b ≡ (b && true)
both_none true = refl
both_none false = refl

none_both : (b : Bool) → false ≡ (b && false)
none_both true = refl
none_both false = refl

ends_same : (blocks : List Nest) (form : SceneLine) → ends_block (length blocks) form ≡ ends_callback blocks form
ends_same [] form = both_none (is_end form)
ends_same (b ∷ bs) form =
    let other : (suc (length bs) == 0) ≡ false = ne_eqb (suc (length bs)) 0 (λ z. absurd (omega (arith, z))) in
    rw other (none_both (is_end form))

composed_step : {T U : Type 0} (g : T → Option U) (o : Option T) (ts : List T) → filter_map g (cons_option o ts) ≡ cons_option (option_and_then g o) (filter_map g ts)
composed_step g None ts = refl
composed_step g (Some t) ts = refl

line_row : (scene : Scene) → first_refusal scene ≡ None → (vs : List (List ℕ)) (blocks : List Nest) (n : ℕ) (l : NumberedLine) (rest : List NumberedLine) → IsKnownForm scene l.form → Assigns vs (assigned_name l.form) → option_and_then (statement_line (plan_of scene) vs) (statement_at (declarations scene) vs blocks n l rest) ≡ kept_line is_statement l.number l.form
unfolding statement_on
line_row scene e vs blocks n l rest h a =
    statement_row scene e vs blocks (nests_after blocks n l.number l.form) n _ h.device l l.form rest h.known a

ended : (scene : Scene) (vs : List (List ℕ)) (blocks : List Nest) (n : ℕ) (l : NumberedLine) (ls : List NumberedLine) → ends_block (length blocks) l.form ≡ true → filter_map (statement_line (plan_of scene) vs) (statements_from (declarations scene) vs blocks n (l ∷ ls)) ≡ lines_that is_statement (until_end (length blocks) (l ∷ ls))
unfolding statements_from until_end
ended scene vs blocks n l ls e = rw (e, sym (ends_same blocks l.form) ∙ e) refl

gone_on : (scene : Scene) → first_refusal scene ≡ None → (vs : List (List ℕ)) (blocks : List Nest) (n : ℕ) (l : NumberedLine) (ls : List NumberedLine) → ends_block (length blocks) l.form ≡ false → IsKnownForm scene l.form → Assigns vs (assigned_name l.form) → filter_map (statement_line (plan_of scene) vs) (statements_from (declarations scene) vs (nests_after blocks n l.number l.form) (number_after n (statement_at (declarations scene) vs blocks n l ls)) ls) ≡ lines_that is_statement (until_end (depth_after (length blocks) l.form) ls) → filter_map (statement_line (plan_of scene) vs) (statements_from (declarations scene) vs blocks n (l ∷ ls)) ≡ lines_that is_statement (until_end (length blocks) (l ∷ ls))
unfolding statements_from until_end
gone_on scene e vs blocks n l ls ends h a later =
    rw (ends, sym (ends_same blocks l.form) ∙ ends) (
    composed_step (statement_line (plan_of scene) vs) (statement_at (declarations scene) vs blocks n l ls) (statements_from (declarations scene) vs (nests_after blocks n l.number l.form) (number_after n (statement_at (declarations scene) vs blocks n l ls)) ls)
    ∙ rw (line_row scene e vs blocks n l ls h a, later) refl
    )

assigned_on : (names : List (List ℕ)) (depth : ℕ) (l : NumberedLine) (ls : List NumberedLine) → ends_block depth l.form ≡ false → assigned_from names depth (l ∷ ls) ≡ assigned_from (with_assigned names (assigned_name l.form)) (depth_after depth l.form) ls
unfolding assigned_from
assigned_on names depth l ls e = rw e refl

lines_from : (scene : Scene) → first_refusal scene ≡ None → (vs names : List (List ℕ)) (depth : ℕ) (blocks : List Nest) (n : ℕ) (ls : List NumberedLine) → length blocks ≡ depth → IsBody depth ls → Every (λ l. IsKnownForm scene l.form) ls → vs ≡ assigned_from names depth ls → filter_map (statement_line (plan_of scene) vs) (statements_from (declarations scene) vs blocks n ls) ≡ lines_that is_statement (until_end depth ls)
lines_from scene e vs names depth blocks n [] deep body each own = absurd body
lines_from scene e vs names depth blocks n (l ∷ ls) deep (inl ends) each own =
    rw (← deep) (ended scene vs blocks n l ls (rw deep ends))
lines_from scene e vs names depth blocks n (l ∷ ls) deep (inr body) each own =
    let ends : ends_block (length blocks) l.form ≡ false = rw deep body.0 in
    let inside : stands_inside (length blocks) l.form ≡ true = rw deep body.1 in
    let next = counted_line (declarations scene) vs blocks n l ls ends inside in
    let deeper : length (nests_after blocks n l.number l.form) ≡ depth_after depth l.form = next.depth ∙ ap (λ d. depth_after d l.form) deep in
    let grown : vs ≡ assigned_from (with_assigned names (assigned_name l.form)) (depth_after depth l.form) ls = own ∙ assigned_on names depth l ls body.0 in
    let later = lines_from scene e vs (with_assigned names (assigned_name l.form)) (depth_after depth l.form) (nests_after blocks n l.number l.form) (number_after n (statement_at (declarations scene) vs blocks n l ls)) ls deeper body.2 each.1 grown in
    rw (← deep) (gone_on scene e vs blocks n l ls ends each.0 (assigns vs names (assigned_name l.form) (depth_after depth l.form) ls grown) (rw deep later))

-- ---- the callbacks of a scene

known_from : (scene : Scene) (k : ℕ) (o : Stand) (c : Counts) (ls : List NumberedLine) → Every (λ p. IsKnownForm scene p.form) (placed_from k o c ls) → Every (λ l. IsKnownForm scene l.form) ls
unfolding placed_from
known_from scene k o c [] h = tt
known_from scene k o c (l ∷ ls) h =
    (h.0, known_from scene (suc k) (opened_by o k l.form) (counted c l.form (length l.picks)) ls h.1)

known_lines : (scene : Scene) → first_refusal scene ≡ None → Every (λ l. IsKnownForm scene l.form) scene.lines
unfolding placed
known_lines scene e =
    known_from scene 0 outside nothing scene.lines (every_map (IsRow scene) (λ p. IsKnownForm scene p.form) (λ p h. record { device = p.stand.device; known = word_known scene p h.accepted }) (placed scene) (rows scene e))

known_drop : {T : Type 0} (P : T → Type 0) (k : ℕ) (xs : List T) → Every P xs → Every P (drop k xs)
known_drop P zero xs h = h
known_drop P (suc k) [] h = tt
known_drop P (suc k) (x ∷ xs) h = known_drop P k xs h.1

-- the statements of the callback that line k begins
pub callback_lines : (scene : Scene) → first_refusal scene ≡ None → (k : ℕ) → IsBody 0 (drop (suc k) scene.lines) → filter_map (statement_line (plan_of scene) (variables scene k)) (statements_of scene (declarations scene) k) ≡ lines_that is_statement (block_lines scene k)
unfolding statements_of variables
callback_lines scene e k body =
    lines_from scene e (variables scene k) [] 0 [] 0 (drop (suc k) scene.lines) refl body (known_drop (λ l. IsKnownForm scene l.form) (suc k) scene.lines (known_lines scene e)) refl
