-- The way after a statement passes over whole bodies, and leads to the next one that has a statement.
use Rattle.std.proofs.Common.{◌≡◌, ℕ, zero, suc, ◌+◌, ◌-◌, ◌<◌, Bool, true, false, cond, ◌&&◌, nat_lt, List, [], ◌∷◌, ◌++◌, length, Option, Some, None, option_map, slice_get, refl, ap, ◌∙◌, arith, append_assoc}
use Rattle.std.specs.Prelude.{◌==◌}
use Rattle.std.proofs.lemmas.Bool.{lt-ltb, le-ltb, ltb-true, ltb-false, ne_eqb}
use Rattle.wdf_base.specs.declared.script.Act.{Act}
use Rattle.wdf_scene.specs.declared.line.NumberedLine.{NumberedLine}
use Rattle.wdf_scene.specs.declared.line.SceneLine.{SceneLine}
use Rattle.wdf_scene.specs.declared.line.SceneLine.TheVariants as line
use Rattle.wdf_plan.specs.declared.course.Course.{Course}
use Rattle.wdf_plan.specs.declared.course.Nest.{Nest}
use Rattle.wdf_plan.specs.declared.course.Nest.TheVariants as nest
use Rattle.wdf_blocks.specs.declared.declaration.Declaration.{Declaration}
use Rattle.wdf_blocks.specs.Forms.{opens, is_end, is_statement}
use Rattle.wdf_plan.specs.Scripts.{nest_at, is_branch, is_else, statements_in, passed, reach, onward, beyond, nests_after, act_on, plain_act}
use Rattle.wdf_plan.proofs.Nesting.{length_last, nest_last}
use Rattle.wdf_plan.specs.Flow.{Body, Empty, Plain, If, IfElse, Repeat, is_plain, lines_of, size, entry, numbered}

-- ---- a statement that opens no block

-- all that the statements of a callback take from such a line
pub record IsPlain (names : List Declaration) (variables : List (List ℕ)) (form : SceneLine) : Type 0 where
  pub ends : is_end form ≡ false
  pub other : is_else form ≡ false
  pub opening : opens form ≡ false
  pub one : statements_in form ≡ 1
  pub behind : (blocks : List Nest) (n number : ℕ) → nests_after blocks n number form ≡ blocks
  pub does : (blocks after : List Nest) (n : ℕ) (rest : List NumberedLine) → act_on names variables blocks after n form rest ≡ plain_act names variables form
  pub act : Act
  pub is : plain_act names variables form ≡ Some act

pub plain_form : (names : List Declaration) (variables : List (List ℕ)) (form : SceneLine) → is_plain form ≡ true → IsPlain names variables form
unfolding is_end is_else opens is_statement statements_in nests_after act_on plain_act
plain_form names variables (line.Let x e) h =
    record { ends = refl; other = refl; opening = refl; one = refl; behind = λ bs n k. refl; does = λ bs cs n rest. refl; act = _; is = refl }
plain_form names variables (line.Call k into a b c) h =
    record { ends = refl; other = refl; opening = refl; one = refl; behind = λ bs n k. refl; does = λ bs cs n rest. refl; act = _; is = refl }
plain_form names variables (line.Get x r) h =
    record { ends = refl; other = refl; opening = refl; one = refl; behind = λ bs n k. refl; does = λ bs cs n rest. refl; act = _; is = refl }
plain_form names variables (line.Put r e) h =
    record { ends = refl; other = refl; opening = refl; one = refl; behind = λ bs n k. refl; does = λ bs cs n rest. refl; act = _; is = refl }
plain_form names variables (line.Spend e) h =
    record { ends = refl; other = refl; opening = refl; one = refl; behind = λ bs n k. refl; does = λ bs cs n rest. refl; act = _; is = refl }
plain_form names variables (line.Log e) h =
    record { ends = refl; other = refl; opening = refl; one = refl; behind = λ bs n k. refl; does = λ bs cs n rest. refl; act = _; is = refl }
plain_form names variables (line.Return e) h =
    record { ends = refl; other = refl; opening = refl; one = refl; behind = λ bs n k. refl; does = λ bs cs n rest. refl; act = _; is = refl }
plain_form names variables _ h = absurd (let z : ⊥ = cc in z)

-- ---- one line

-- so many blocks are passed over, so many are left, and the next statement has number n
abbrev pub way : ℕ → ℕ → ℕ → Course
way skipped left n = record { skipping = skipped; left = left; number = n }

-- where a way leads that came to number n and goes on so before these lines
abbrev led : List Nest → ℕ → List NumberedLine → Option Course → ℕ
led blocks n ls None = n
led blocks n ls (Some t) = reach blocks t ls

step : (blocks : List Nest) (s t : Course) (l : NumberedLine) (ls : List NumberedLine) → passed blocks s l.form ≡ Some t → reach blocks s (l ∷ ls) ≡ reach blocks t ls
unfolding reach
step blocks s t l ls e = ap (λ o. led blocks s.number ls o) e

pub stop : (blocks : List Nest) (s : Course) (l : NumberedLine) (ls : List NumberedLine) → passed blocks s l.form ≡ None → reach blocks s (l ∷ ls) ≡ s.number
unfolding reach
stop blocks s l ls e = ap (λ o. led blocks s.number ls o) e

skip_plain : (blocks : List Nest) (k left n : ℕ) (form : SceneLine) → is_plain form ≡ true → passed blocks (way (suc k) left n) form ≡ Some (way (suc k) left (n + 1))
unfolding passed
skip_plain blocks k left n form h =
    let p = plain_form [] [] form h in
    let some' : (suc k == 0) ≡ false = ne_eqb _ _ (λ e. omega (arith, e)) in
    rw (some', p.ends, p.other, p.opening, p.one) refl

skip_if : (blocks : List Nest) (k left n e : ℕ) → passed blocks (way (suc k) left n) (line.If e) ≡ Some (way (suc (suc k)) left (n + 1))
unfolding passed is_end is_else opens statements_in
skip_if blocks k left n e =
    let some' : (suc k == 0) ≡ false = ne_eqb _ _ (λ z. omega (arith, z)) in
    let more : suc k + 1 ≡ suc (suc k) = omega arith in
    rw (some', more) refl

skip_repeat : (blocks : List Nest) (k left n e : ℕ) → passed blocks (way (suc k) left n) (line.Repeat e) ≡ Some (way (suc (suc k)) left (n + 2))
unfolding passed is_end is_else opens statements_in
skip_repeat blocks k left n e =
    let some' : (suc k == 0) ≡ false = ne_eqb _ _ (λ z. omega (arith, z)) in
    let more : suc k + 1 ≡ suc (suc k) = omega arith in
    rw (some', more) refl

skip_end : (blocks : List Nest) (k left n : ℕ) → passed blocks (way (suc (suc k)) left n) line.End ≡ Some (way (suc k) left n)
unfolding passed is_end
skip_end blocks k left n =
    let some' : (suc (suc k) == 0) ≡ false = ne_eqb _ _ (λ z. omega (arith, z)) in
    let inner' : (suc (suc k) == 1) ≡ false = ne_eqb _ _ (λ z. omega (arith, z)) in
    let less : suc (suc k) - 1 ≡ suc k = omega arith in
    rw (some', inner', less) refl

skip_else : (blocks : List Nest) (k left n : ℕ) → passed blocks (way (suc (suc k)) left n) line.Else ≡ Some (way (suc (suc k)) left n)
unfolding passed is_end is_else opens statements_in
skip_else blocks k left n =
    let some' : (suc (suc k) == 0) ≡ false = ne_eqb _ _ (λ z. omega (arith, z)) in
    let inner' : (suc (suc k) == 1) ≡ false = ne_eqb _ _ (λ z. omega (arith, z)) in
    let same : n + 0 ≡ n = omega arith in
    rw (some', inner', same) refl

-- ---- a body that is passed over

to_number : (blocks : List Nest) (k left n m : ℕ) (rest : List NumberedLine) → n ≡ m → reach blocks (way k left n) rest ≡ reach blocks (way k left m) rest
to_number blocks k left n m rest e = ap (λ x. reach blocks (way k left x) rest) e

skip_body : (blocks : List Nest) (k left n : ℕ) (body : Body) (rest : List NumberedLine) → reach blocks (way (suc k) left n) (lines_of body ++ rest) ≡ reach blocks (way (suc k) left (n + size body)) rest
unfolding lines_of size
skip_body blocks k left n Empty rest = to_number blocks (suc k) left n (n + 0) rest (omega arith)
skip_body blocks k left n (Plain l is tail) rest =
    step blocks _ _ l (lines_of tail ++ rest) (skip_plain blocks k left n l.form is)
    ∙ (skip_body blocks k left (n + 1) tail rest ∙ to_number blocks (suc k) left (n + 1 + size tail) (n + (1 + size tail)) rest (omega arith))
skip_body blocks k left n (If h branch closing tail) rest =
    let e = numbered closing line.End in
    let behind = lines_of tail ++ rest in
    step blocks _ _ (numbered h.line (line.If h.expression)) ((lines_of branch ++ e ∷ lines_of tail) ++ rest) (skip_if blocks k left n h.expression)
    ∙ (ap (λ ls. reach blocks (way (suc (suc k)) left (n + 1)) ls) (append_assoc (lines_of branch) (e ∷ lines_of tail) rest)
    ∙ (skip_body blocks (suc k) left (n + 1) branch (e ∷ behind)
    ∙ (step blocks _ _ e behind (skip_end blocks k left (n + 1 + size branch))
    ∙ (skip_body blocks k left (n + 1 + size branch) tail rest ∙ to_number blocks (suc k) left (n + 1 + size branch + size tail) (n + (1 + size branch + size tail)) rest (omega arith)))))
skip_body blocks k left n (IfElse h first middle second closing tail) rest =
    let e = numbered closing line.End in
    let m = numbered middle line.Else in
    let behind = lines_of tail ++ rest in
    let q = n + 1 + size first in
    step blocks _ _ (numbered h.line (line.If h.expression)) ((lines_of first ++ m ∷ (lines_of second ++ e ∷ lines_of tail)) ++ rest) (skip_if blocks k left n h.expression)
    ∙ (ap (λ ls. reach blocks (way (suc (suc k)) left (n + 1)) ls) (append_assoc (lines_of first) (m ∷ (lines_of second ++ e ∷ lines_of tail)) rest)
    ∙ (skip_body blocks (suc k) left (n + 1) first (m ∷ ((lines_of second ++ e ∷ lines_of tail) ++ rest))
    ∙ (step blocks _ _ m ((lines_of second ++ e ∷ lines_of tail) ++ rest) (skip_else blocks k left q)
    ∙ (ap (λ ls. reach blocks (way (suc (suc k)) left q) ls) (append_assoc (lines_of second) (e ∷ lines_of tail) rest)
    ∙ (skip_body blocks (suc k) left q second (e ∷ behind)
    ∙ (step blocks _ _ e behind (skip_end blocks k left (q + size second))
    ∙ (skip_body blocks k left (q + size second) tail rest ∙ to_number blocks (suc k) left (q + size second + size tail) (n + (1 + size first + size second + size tail)) rest (omega arith))))))))
skip_body blocks k left n (Repeat h body closing tail) rest =
    let e = numbered closing line.End in
    let behind = lines_of tail ++ rest in
    step blocks _ _ (numbered h.line (line.Repeat h.expression)) ((lines_of body ++ e ∷ lines_of tail) ++ rest) (skip_repeat blocks k left n h.expression)
    ∙ (ap (λ ls. reach blocks (way (suc (suc k)) left (n + 2)) ls) (append_assoc (lines_of body) (e ∷ lines_of tail) rest)
    ∙ (skip_body blocks (suc k) left (n + 2) body (e ∷ behind)
    ∙ (step blocks _ _ e behind (skip_end blocks k left (n + 2 + size body))
    ∙ (skip_body blocks k left (n + 2 + size body) tail rest ∙ to_number blocks (suc k) left (n + 2 + size body + size tail) (n + (2 + size body + size tail)) rest (omega arith)))))

-- ---- out of a block

-- one open block more is left
abbrev pub deeper : Course → Course
deeper s = record s { left = s.left + 1 }

slice_left : (xs : List Nest) (x : Nest) (i : ℕ) → i < length xs → slice_get (xs ++ x ∷ []) i ≡ slice_get xs i
slice_left [] x i h = absurd (omega arith)
slice_left (y ∷ ys) x zero h = refl
slice_left (y ∷ ys) x (suc i) h = slice_left ys x i (omega arith)

nest_deeper : (blocks : List Nest) (x : Nest) (left : ℕ) (b : Bool) → nat_lt left (length blocks) ≡ b → nest_at (blocks ++ x ∷ []) (left + 1) ≡ nest_at blocks left
nest_deeper blocks x left true e =
    let long = length_last blocks x in
    let under = ltb-true left (length blocks) e in
    let within : nat_lt (left + 1) (length (blocks ++ x ∷ [])) ≡ true = lt-ltb _ _ (omega arith) in
    let place : length (blocks ++ x ∷ []) - suc (left + 1) ≡ length blocks - suc left = omega arith in
    rw (within, place, e) (slice_left blocks x (length blocks - suc left) (omega arith))
nest_deeper blocks x left false e =
    let long = length_last blocks x in
    let over = ltb-false left (length blocks) e in
    let beyond' : nat_lt (left + 1) (length (blocks ++ x ∷ [])) ≡ false = le-ltb _ _ (omega arith) in
    rw (beyond', e) refl

deeper_going : (s : Course) (ends inner other : Bool) → cond ends (cond inner (Some (record (deeper s) { left = s.left + 1 + 1 })) None) (cond other (Some (record (deeper s) { skipping = 1 })) None) ≡ option_map deeper (cond ends (cond inner (Some (record s { left = s.left + 1 })) None) (cond other (Some (record s { skipping = 1 })) None))
deeper_going s true true other = refl
deeper_going s true false other = refl
deeper_going s false inner true = refl
deeper_going s false inner false = refl

deeper_skipping : (s : Course) (more n : ℕ) (ends one other : Bool) → cond ends (record (deeper s) { skipping = s.skipping - 1; left = cond one (s.left + 1 + 1) (s.left + 1) }) (cond other (record (deeper s) { skipping = 0 }) (record (deeper s) { skipping = more; number = n })) ≡ deeper (cond ends (record s { skipping = s.skipping - 1; left = cond one (s.left + 1) s.left }) (cond other (record s { skipping = 0 }) (record s { skipping = more; number = n })))
deeper_skipping s more n true true other = refl
deeper_skipping s more n true false other = refl
deeper_skipping s more n false one true = refl
deeper_skipping s more n false one false = refl

deeper_passed : (blocks : List Nest) (x : Nest) (s : Course) (form : SceneLine) (b : Bool) → (s.skipping == 0) ≡ b → passed (blocks ++ x ∷ []) (deeper s) form ≡ option_map deeper (passed blocks s form)
unfolding passed
deeper_passed blocks x s form true e =
    rw (e, nest_deeper blocks x s.left (nat_lt s.left (length blocks)) refl) (deeper_going s (is_end form) (is_branch (nest_at blocks s.left)) (is_else form))
deeper_passed blocks x s form false e =
    rw e (ap Some (deeper_skipping s (cond (opens form) (s.skipping + 1) s.skipping) (s.number + statements_in form) (is_end form) (s.skipping == 1) (is_else form && (s.skipping == 1))))

-- a way that has left the innermost block goes on as in the blocks round it
pub leave : (blocks : List Nest) (x : Nest) (s : Course) (ls : List NumberedLine) → reach (blocks ++ x ∷ []) (deeper s) ls ≡ reach blocks s ls
unfolding reach
leave blocks x s [] = refl
leave blocks x s (l ∷ ls) =
    ap (λ o. led (blocks ++ x ∷ []) s.number ls o) (deeper_passed blocks x s l.form (s.skipping == 0) refl)
    ∙ by_way (passed blocks s l.form) (λ t. leave blocks x t ls)
  where
    by_way : (o : Option Course) → ((t : Course) → reach (blocks ++ x ∷ []) (deeper t) ls ≡ reach blocks t ls) → led (blocks ++ x ∷ []) s.number ls (option_map deeper o) ≡ led blocks s.number ls o
    by_way None h = refl
    by_way (Some t) h = h t

-- past the rest of a block, to its `end`
pub past_block : (blocks : List Nest) (x : Nest) (n closing : ℕ) (body : Body) (rest : List NumberedLine) → beyond (blocks ++ x ∷ []) n (lines_of body ++ numbered closing line.End ∷ rest) ≡ onward blocks (n + size body) rest
unfolding passed is_end
past_block blocks x n closing body rest =
    skip_body (blocks ++ x ∷ []) 0 0 n body (numbered closing line.End ∷ rest)
    ∙ (step (blocks ++ x ∷ []) (way 1 0 (n + size body)) (way 0 1 (n + size body)) (numbered closing line.End) rest out ∙ leave blocks x (way 0 0 (n + size body)) rest)
  where
    out : passed (blocks ++ x ∷ []) (way 1 0 (n + size body)) line.End ≡ Some (way 0 1 (n + size body))
    out = refl

-- past a first branch, to the `else`
pub past_branch : (blocks : List Nest) (n middle : ℕ) (body : Body) (rest : List NumberedLine) → beyond blocks n (lines_of body ++ numbered middle line.Else ∷ rest) ≡ onward blocks (n + size body) rest
unfolding passed is_end is_else
past_branch blocks n middle body rest =
    skip_body blocks 0 0 n body (numbered middle line.Else ∷ rest)
    ∙ step blocks (way 1 0 (n + size body)) (way 0 0 (n + size body)) (numbered middle line.Else) rest out
  where
    out : passed blocks (way 1 0 (n + size body)) line.Else ≡ Some (way 0 0 (n + size body))
    out = refl

-- ---- onward

-- the way leads to the first statement of a body, or on to what follows it
pub enter : (blocks : List Nest) (n m after : ℕ) (body : Body) (rest : List NumberedLine) → n + size body ≡ m → onward blocks m rest ≡ after → onward blocks n (lines_of body ++ rest) ≡ entry body n after
unfolding lines_of size reach passed is_end is_else
enter blocks n m after Empty rest e h = to_number blocks 0 0 n m rest (omega (arith, e)) ∙ h
enter blocks n m after (Plain l is tail) rest e h =
    stop blocks (way 0 0 n) l (lines_of tail ++ rest) (let p = plain_form [] [] l.form is in rw (p.ends, p.other) refl)
enter blocks n m after _ rest e h = refl

-- an `end` of an `if` is nothing
pub end_of_if : (blocks : List Nest) (n closing : ℕ) (rest : List NumberedLine) → onward (blocks ++ nest.Branch ∷ []) n (numbered closing line.End ∷ rest) ≡ onward blocks n rest
unfolding passed is_end
end_of_if blocks n closing rest =
    step (blocks ++ nest.Branch ∷ []) (way 0 0 n) (way 0 1 n) (numbered closing line.End) rest out ∙ leave blocks nest.Branch (way 0 0 n) rest
  where
    out : passed (blocks ++ nest.Branch ∷ []) (way 0 0 n) line.End ≡ Some (way 0 1 n)
    out = rw (nest_last blocks nest.Branch) refl

-- from a first branch the way leads past the second
pub end_of_branch : (blocks : List Nest) (n middle closing : ℕ) (second : Body) (rest : List NumberedLine) → onward (blocks ++ nest.Branch ∷ []) n (numbered middle line.Else ∷ (lines_of second ++ numbered closing line.End ∷ rest)) ≡ onward blocks (n + size second) rest
unfolding passed is_end is_else
end_of_branch blocks n middle closing second rest =
    step (blocks ++ nest.Branch ∷ []) (way 0 0 n) (way 1 0 n) (numbered middle line.Else) (lines_of second ++ numbered closing line.End ∷ rest) out
    ∙ past_block blocks nest.Branch n closing second rest
  where
    out : passed (blocks ++ nest.Branch ∷ []) (way 0 0 n) line.Else ≡ Some (way 1 0 n)
    out = refl

-- there is a statement at the `end` of a `repeat`
pub end_of_loop : (blocks : List Nest) (own start n closing : ℕ) (rest : List NumberedLine) → onward (blocks ++ nest.Loop own start ∷ []) n (numbered closing line.End ∷ rest) ≡ n
unfolding passed is_end
end_of_loop blocks own start n closing rest =
    stop (blocks ++ nest.Loop own start ∷ []) (way 0 0 n) (numbered closing line.End) rest (rw (nest_last blocks (nest.Loop own start)) refl)
