-- The statements of a callback are written line by line.
use Rattle.std.proofs.Common.{◌≡◌, ℕ, suc, ◌+◌, ◌<◌, ◌≤◌, true, false, cond, List, [], ◌++◌, length, drop, get_or, Option, Some, None, Result, Ok, Err, IfOk, refl, ap, sym, ◌∙◌, arith, drop-cons, add-one, length-append}
use Rattle.std.proofs.lemmas.List.{drop_all, append-nil}
use Rattle.std.specs.Option.{option_to_list}
use Rattle.std.specs.List.{cons_option}
use Rattle.wdf_base.specs.declared.script.Statement.{Statement}
use Rattle.wdf_scene.specs.declared.line.NumberedLine.{NumberedLine}
use Rattle.wdf_scene.specs.declared.scene.Scene.{Scene}
use Rattle.wdf_plan.specs.declared.course.Nest.{Nest}
use Rattle.wdf_blocks.specs.declared.declaration.Declaration.{Declaration}
use Rattle.wdf_plan.specs.Scripts.{statements_from, statements_of, statement_on, statement_at, nests_after, number_after, ends_callback}
use Rattle.wdf_blocks.specs.Variables.{variables}
use Rattle.wdf_refusals.proofs.Gather.{cons-append}
use Rattle.wdf_plan.proofs.Rooms.{IsNext}

-- the statements of the lines before line k are written
pub record IsWritten (names : List Declaration) (vars : List (List ℕ)) (lines : List NumberedLine) (from : ℕ) (blocks : List Nest) (so_far : List Statement) (k : ℕ) : Type 0 where
  pub answer : so_far ++ statements_from names vars blocks (length so_far) (drop k lines) ≡ statements_from names vars [] 0 (drop from lines)

step : (names : List Declaration) (vars : List (List ℕ)) (lines : List NumberedLine) (blocks : List Nest) (n k : ℕ) (l : NumberedLine) → k < length lines → l ≡ get_or lines k l → statements_from names vars blocks n (drop k lines) ≡ cond (ends_callback blocks l.form) [] (cons_option (statement_at names vars blocks n l (drop (suc k) lines)) (statements_from names vars (nests_after blocks n l.number l.form) (number_after n (statement_at names vars blocks n l (drop (suc k) lines))) (drop (suc k) lines)))
unfolding statements_from
step names vars lines blocks n k l here is = rw (drop-cons lines k l) (rw (← is) refl)

more_length : (so_far : List Statement) (o : Option Statement) → number_after (length so_far) o ≡ length (so_far ++ option_to_list o)
more_length so_far None = ap length (sym (append-nil so_far))
more_length so_far (Some s) = simp length-append (omega arith)

-- the statements end with the callback
pub writing_over : (names : List Declaration) (vars : List (List ℕ)) (lines : List NumberedLine) (from : ℕ) (blocks slice : List Nest) (so_far : List Statement) (k : ℕ) (l : NumberedLine) → IsWritten names vars lines from blocks so_far k → k < length lines → l ≡ get_or lines k l → slice ≡ blocks → true ≡ ends_callback slice l.form → so_far ≡ statements_from names vars [] 0 (drop from lines)
writing_over names vars lines from blocks slice so_far k l w here is same ends =
    let ends' : true ≡ ends_callback blocks l.form = rw (← same) ends in
    let e : statements_from names vars blocks (length so_far) (drop k lines) ≡ [] = step names vars lines blocks (length so_far) k l here is ∙ rw (← ends') refl in
    sym (append-nil so_far) ∙ (rw e at w.answer)

-- they end with the text
pub writing_ends : (names : List Declaration) (vars : List (List ℕ)) (lines : List NumberedLine) (from : ℕ) (blocks : List Nest) (so_far : List Statement) (k : ℕ) → IsWritten names vars lines from blocks so_far k → length lines ≤ k → so_far ≡ statements_from names vars [] 0 (drop from lines)
unfolding statements_from
writing_ends names vars lines from blocks so_far k w past =
    let e : statements_from names vars blocks (length so_far) (drop k lines) ≡ [] = rw (drop_all k lines past) refl in
    sym (append-nil so_far) ∙ (rw e at w.answer)

-- after these statements comes that of the next line
pub writing_next : (names : List Declaration) (vars : List (List ℕ)) (lines : List NumberedLine) (from : ℕ) (blocks slice behind slice' : List Nest) (so_far : List Statement) (n k : ℕ) (l : NumberedLine) → IsWritten names vars lines from blocks so_far k → k < length lines → l ≡ get_or lines k l → slice ≡ blocks → false ≡ ends_callback slice l.form → n ≡ length so_far → behind ≡ nests_after slice n l.number l.form → slice' ≡ behind → IsNext so_far (statements_from names vars [] 0 (drop from lines)) (statement_on names vars slice slice' n l (drop (k + 1) lines))
writing_next names vars lines from blocks slice behind slice' so_far n k l w here is same ends count grown same' =
    let ends' : false ≡ ends_callback blocks l.form = rw (← same) ends in
    let o : Option Statement = statement_at names vars blocks (length so_far) l (drop (suc k) lines) in
    let rest = statements_from names vars (nests_after blocks (length so_far) l.number l.form) (number_after (length so_far) o) (drop (suc k) lines) in
    let e : statements_from names vars blocks (length so_far) (drop k lines) ≡ cons_option o rest = step names vars lines blocks (length so_far) k l here is ∙ rw (← ends') refl in
    let own : statement_on names vars slice slice' n l (drop (k + 1) lines) ≡ o = rw (same', grown, same, count, add-one) refl in
    let all : so_far ++ cons_option o rest ≡ statements_from names vars [] 0 (drop from lines) = rw e at w.answer in
    record { rest = rest; all = rw own all }

-- a line adds its statement
pub writing_more : (names : List Declaration) (vars : List (List ℕ)) (lines : List NumberedLine) (from : ℕ) (blocks slice behind slice' : List Nest) (so_far so_far' : List Statement) (n k : ℕ) (l : NumberedLine) → IsWritten names vars lines from blocks so_far k → k < length lines → l ≡ get_or lines k l → slice ≡ blocks → false ≡ ends_callback slice l.form → n ≡ length so_far → behind ≡ nests_after slice n l.number l.form → slice' ≡ behind → so_far' ≡ so_far ++ option_to_list (statement_on names vars slice slice' n l (drop (k + 1) lines)) → IsWritten names vars lines from behind so_far' (k + 1)
writing_more names vars lines from blocks slice behind slice' so_far so_far' n k l w here is same ends count grown same' put =
    let ends' : false ≡ ends_callback blocks l.form = rw (← same) ends in
    let o : Option Statement = statement_at names vars blocks (length so_far) l (drop (suc k) lines) in
    let b : behind ≡ nests_after blocks (length so_far) l.number l.form = rw (← same, ← count) grown in
    let e : statements_from names vars blocks (length so_far) (drop k lines) ≡ cons_option o (statements_from names vars (nests_after blocks (length so_far) l.number l.form) (number_after (length so_far) o) (drop (suc k) lines)) = step names vars lines blocks (length so_far) k l here is ∙ rw (← ends') refl in
    let f : so_far' ≡ so_far ++ option_to_list o = put ∙ rw (same', grown, same, count, add-one) refl in
    let g : so_far ++ cons_option o (statements_from names vars (nests_after blocks (length so_far) l.number l.form) (number_after (length so_far) o) (drop (suc k) lines)) ≡ statements_from names vars [] 0 (drop from lines) = rw e at w.answer in
    record { answer = rw (b, f, add-one, ← more_length, ← cons-append) g }

pub statements_are : (scene : Scene) (names : List Declaration) (lines : List NumberedLine) (vars : List (List ℕ)) (k : ℕ) → lines ≡ scene.lines → vars ≡ variables scene k → statements_from names vars [] 0 (drop (k + 1) lines) ≡ statements_of scene names k
unfolding statements_of
statements_are scene names lines vars k same own = rw (own, same, add-one) refl

-- the statements of the callback of line k
pub statements_there : {E : Type 0} (scene : Scene) (names : List Declaration) (lines : List NumberedLine) (vars : List (List ℕ)) (k : ℕ) (r : Result (List Statement) E) → lines ≡ scene.lines → vars ≡ variables scene k → IfOk r (λ s. s ≡ statements_from names vars [] 0 (drop (k + 1) lines)) → IfOk r (λ s. s ≡ statements_of scene names k)
unfolding statements_of
statements_there scene names lines vars k (Ok s) same own e = e ∙ rw (own, same, add-one) refl
statements_there scene names lines vars k (Err x) same own e = tt

-- the callback in which the text ends has none
pub statements_past : (scene : Scene) (names : List Declaration) (lines : List NumberedLine) (k : ℕ) (s : List Statement) → lines ≡ scene.lines → length lines ≤ k → s ≡ [] → s ≡ statements_of scene names k
unfolding statements_of statements_from
statements_past scene names lines k s same past none' =
    let past' : length scene.lines ≤ suc k = rw (← same) (omega arith) in
    rw (none', drop_all (suc k) scene.lines past') refl
