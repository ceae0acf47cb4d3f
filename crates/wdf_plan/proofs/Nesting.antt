-- What a line of a callback does to the blocks that are open in it, and to the number of the next statement.
use Rattle.std.proofs.Common.{◌≡◌, ◌⊎◌, ℕ, zero, suc, ◌+◌, ◌-◌, ◌<◌, ◌≤◌, Bool, true, false, not, cond, nat_lt, List, [], ◌∷◌, ◌++◌, length, Some, option_map, slice_get, refl, ap, arith, length-append}
use Rattle.std.proofs.lemmas.Bool.{not-true, lt-ltb}
use Rattle.std.proofs.lemmas.List.Sums.{sum_by_push}
use Rattle.std.proofs.Math.Seq.{take-append_seam}
use Rattle.wdf_base.specs.declared.script.Act.{Act}
use Rattle.wdf_base.specs.declared.script.Statement.{Statement}
use Rattle.wdf_scene.specs.declared.line.NumberedLine.{NumberedLine}
use Rattle.wdf_scene.specs.declared.line.SceneLine.{SceneLine}
use Rattle.wdf_scene.specs.declared.line.SceneLine.TheVariants as line
use Rattle.wdf_plan.specs.declared.course.Nest.{Nest}
use Rattle.wdf_plan.specs.declared.course.Nest.TheVariants as nest
use Rattle.wdf_blocks.specs.declared.declaration.Declaration.{Declaration}
use Rattle.wdf_blocks.specs.Blocks.{depth_after, ends_block}
use Rattle.wdf_blocks.specs.Forms.{opens, is_end}
use Rattle.wdf_plan.specs.Scripts.{nest_at, outer, loops, is_loop, again, nests_after, act_on, plain_act, statement_on, statement_at, number_after, statements_in}

-- a line may be in a callback, where so many of its blocks are open
abbrev pub stands_inside : ℕ → SceneLine → Bool
stands_inside d (line.If e) = nat_lt d 16
stands_inside d (line.Repeat e) = nat_lt d 16
stands_inside d line.Else = nat_lt 0 d
stands_inside d form = not (opens form)

-- the lines of a callback from one on, where so many of its blocks are open, with its own end among them
abbrev pub IsBody : ℕ → List NumberedLine → Type 0
IsBody d [] = ⊥
IsBody d (l ∷ ls) =
    (ends_block d l.form ≡ true) ⊎ ((ends_block d l.form ≡ false) × (stands_inside d l.form ≡ true) × IsBody (depth_after d l.form) ls)

-- ---- the innermost block is the last

pub record HasLast {T : Type 0} (xs : List T) : Type 0 where
  pub front : List T
  pub last : T
  pub is : xs ≡ front ++ last ∷ []

last_of : {T : Type 0} (x : T) (xs : List T) → HasLast (x ∷ xs)
last_of x [] = record { front = []; last = x; is = refl }
last_of x (y ∷ ys) =
    let h = last_of y ys in
    record { front = x ∷ h.front; last = h.last; is = ap (λ zs. x ∷ zs) h.is }

pub with_last : {T : Type 0} (xs : List T) → 0 < length xs → HasLast xs
with_last [] h = absurd (omega arith)
with_last (x ∷ xs) h = last_of x xs

slice_last : {T : Type 0} (front : List T) (x : T) → slice_get (front ++ x ∷ []) (length front) ≡ Some x
slice_last [] x = refl
slice_last (y ∷ ys) x = slice_last ys x

pub length_last : {T : Type 0} (front : List T) (x : T) → length (front ++ x ∷ []) ≡ length front + 1
length_last front x = length-append front (x ∷ [])

pub outer_last : (front : List Nest) (x : Nest) → outer (front ++ x ∷ []) ≡ front
outer_last front x =
    let long : length (front ++ x ∷ []) - 1 ≡ length front = let h = length_last front x in omega arith in
    rw long (take-append_seam front (x ∷ []))

pub nest_last : (front : List Nest) (x : Nest) → nest_at (front ++ x ∷ []) 0 ≡ Some x
nest_last front x =
    let h = length_last front x in
    let some : nat_lt 0 (length (front ++ x ∷ [])) ≡ true = lt-ltb _ _ (omega arith) in
    let place : length (front ++ x ∷ []) - suc 0 ≡ length front = omega arith in
    rw (some, place) (slice_last front x)

-- a `repeat` counts
abbrev loop_count : Nest → ℕ
loop_count x = cond (is_loop x) 1 0

pub loops_last : (front : List Nest) (x : Nest) → loops (front ++ x ∷ []) ≡ loops front + loop_count x
unfolding loops
loops_last front x = sum_by_push loop_count front x

-- ---- a line

-- the statements and the open blocks after a line, where the next statement had number n and has number m
pub record IsCounted (blocks behind : List Nest) (n m : ℕ) (form : SceneLine) : Type 0 where
  pub depth : length behind ≡ depth_after (length blocks) form
  pub number : m + loops behind ≡ n + loops blocks + statements_in form
  pub grows : n ≤ m

quiet_line : (blocks : List Nest) (n : ℕ) (form : SceneLine) → opens form ≡ false → is_end form ≡ false → statements_in form ≡ 0 → IsCounted blocks blocks n n form
quiet_line blocks n form o e s =
    record { depth = rw (o, e) refl; number = rw s (omega arith); grows = omega arith }

plain_line : (blocks : List Nest) (n : ℕ) (form : SceneLine) → opens form ≡ false → is_end form ≡ false → statements_in form ≡ 1 → IsCounted blocks blocks n (n + 1) form
plain_line blocks n form o e s =
    record { depth = rw (o, e) refl; number = rw s (omega arith); grows = omega arith }

ended_line : (f : Act → Statement) (front : List Nest) (x : Nest) (n : ℕ) → IsCounted (front ++ x ∷ []) front n (number_after n (option_map f (again (front ++ x ∷ []) (Some x)))) line.End
unfolding opens is_end statements_in
ended_line f front nest.Branch n =
    let long = length_last front nest.Branch in
    let inner = loops_last front nest.Branch in
    record { depth = omega arith; number = omega arith; grows = omega arith }
ended_line f front (nest.Loop l k) n =
    let long = length_last front (nest.Loop l k) in
    let inner = loops_last front (nest.Loop l k) in
    record { depth = omega arith; number = omega arith; grows = omega arith }

end_line : (f : Act → Statement) (blocks : List Nest) (n : ℕ) → HasLast blocks → IsCounted blocks (outer blocks) n (number_after n (option_map f (again blocks (nest_at blocks 0)))) line.End
end_line f blocks n h =
    rw h.is (rw (outer_last h.front h.last, nest_last h.front h.last) (ended_line f h.front h.last n))

opened_line : (blocks : List Nest) (n : ℕ) (form : SceneLine) (x : Nest) → opens form ≡ true → statements_in form ≡ loop_count x + 1 → IsCounted blocks (blocks ++ x ∷ []) n (n + 1) form
opened_line blocks n form x o s =
    let long = length_last blocks x in
    let inner = loops_last blocks x in
    record { depth = rw o (omega arith); number = rw s (omega arith); grows = omega arith }

pub open_before : (d : ℕ) → ends_block d line.End ≡ false → 0 < d
unfolding is_end
open_before zero e = absurd (let z : ⊥ = cc in z)
open_before (suc d) e = omega arith

counted_form : (f : Act → Statement) (names : List Declaration) (variables : List (List ℕ)) (blocks : List Nest) (n number : ℕ) (form : SceneLine) (rest : List NumberedLine) → ends_block (length blocks) form ≡ false → stands_inside (length blocks) form ≡ true → IsCounted blocks (nests_after blocks n number form) n (number_after n (option_map f (act_on names variables blocks (nests_after blocks n number form) n form rest))) form
unfolding opens is_end statements_in nests_after act_on plain_act
counted_form f names variables blocks n number line.End rest e s =
    end_line f blocks n (with_last blocks (open_before (length blocks) e))
counted_form f names variables blocks n number (line.If x) rest e s = opened_line blocks n (line.If x) nest.Branch refl refl
counted_form f names variables blocks n number (line.Repeat x) rest e s = opened_line blocks n (line.Repeat x) (nest.Loop number n) refl refl
counted_form f names variables blocks n number line.Else rest e s = quiet_line blocks n line.Else refl refl refl
counted_form f names variables blocks n number (line.Let x y) rest e s = plain_line blocks n (line.Let x y) refl refl refl
counted_form f names variables blocks n number (line.Call k into a b c) rest e s =
    plain_line blocks n (line.Call k into a b c) refl refl refl
counted_form f names variables blocks n number (line.Get x r) rest e s = plain_line blocks n (line.Get x r) refl refl refl
counted_form f names variables blocks n number (line.Put r y) rest e s = plain_line blocks n (line.Put r y) refl refl refl
counted_form f names variables blocks n number (line.Spend y) rest e s = plain_line blocks n (line.Spend y) refl refl refl
counted_form f names variables blocks n number (line.Log y) rest e s = plain_line blocks n (line.Log y) refl refl refl
counted_form f names variables blocks n number (line.Return y) rest e s = plain_line blocks n (line.Return y) refl refl refl
counted_form f names variables blocks n number form rest e s = quiet_line blocks n form (not-true (opens form) s) refl refl

-- a line that doesn't end the callback
pub counted_line : (names : List Declaration) (variables : List (List ℕ)) (blocks : List Nest) (n : ℕ) (l : NumberedLine) (rest : List NumberedLine) → ends_block (length blocks) l.form ≡ false → stands_inside (length blocks) l.form ≡ true → IsCounted blocks (nests_after blocks n l.number l.form) n (number_after n (statement_at names variables blocks n l rest)) l.form
unfolding statement_on
counted_line names variables blocks n l rest e s =
    counted_form _ names variables blocks n l.number l.form rest e s
