-- The statements of a callback's lines have numbers that stand for what their places need.
use Rattle.std.proofs.Common.{◌≡◌, inl, inr, ℕ, ◌+◌, ◌<◌, ◌≤◌, true, false, List, [], ◌∷◌, ◌++◌, length, Option, Some, None, option_map, refl, ap, sym, subst, ◌∙◌, arith}
use Rattle.std.specs.List.{cons_option}
use Rattle.std.proofs.lemmas.Bool.{ltb-true, lt-ltb, le-leb, and_from}
use Rattle.wdf_base.specs.declared.plan.Plan.{Plan}
use Rattle.wdf_base.specs.declared.script.Act.{Act}
use Rattle.wdf_base.specs.declared.script.Statement.{Statement}
use Rattle.wdf_base.specs.Calls.{signature_of}
use Rattle.wdf_base.specs.Resolved.{is_expr, is_register, is_variable, is_answer_place, arg_fits, act_fits, statement_fits}
use Rattle.wdf_scene.specs.declared.line.NumberedLine.{NumberedLine}
use Rattle.wdf_scene.specs.declared.line.SceneLine.{SceneLine}
use Rattle.wdf_scene.specs.declared.line.SceneLine.TheVariants as line
use Rattle.wdf_plan.specs.declared.course.Course.{Course}
use Rattle.wdf_plan.specs.declared.course.Nest.{Nest}
use Rattle.wdf_plan.specs.declared.course.Nest.TheVariants as nest
use Rattle.wdf_blocks.specs.declared.declaration.Declaration.{Declaration}
use Rattle.wdf_blocks.specs.declared.declaration.Wanted.TheVariants as wanted
use Rattle.wdf_blocks.specs.Blocks.{depth_after, ends_block}
use Rattle.wdf_refusals.specs.Numbers.{number_of}
use Rattle.wdf_plan.specs.Scripts.{nest_at, outer, loops, again, reach, onward, beyond, variable_of, answer_place, argument_of, nests_after, plain_act, act_on, told_line, statement_on, statement_at, statements_from, number_after, statements_in}
use Rattle.wdf_refusals.proofs.Every.{Every, every_map}
use Rattle.wdf_plan.proofs.Nesting.{stands_inside, IsBody, open_before, IsCounted, counted_line, HasLast, with_last, length_last, outer_last, nest_last, loops_last}
use Rattle.wdf_plan.proofs.Reaching.{IsAlong, end_from, end_later, reach_within, body_after, loops_few, same_end}

-- the numbers of a line's statement stand for what their places need
abbrev pub HasNumbers : Plan → List Declaration → SceneLine → Type 0
HasNumbers plan names (line.Let x e) = is_expr plan e ≡ true
HasNumbers plan names (line.Call k into a b c) =
    (arg_fits plan (signature_of k).a (argument_of names (signature_of k).a a) ≡ true)
    × (arg_fits plan (signature_of k).b (argument_of names (signature_of k).b b) ≡ true)
    × (arg_fits plan (signature_of k).c (argument_of names (signature_of k).c c) ≡ true)
HasNumbers plan names (line.Get x r) = is_register plan (number_of names r wanted.Register) ≡ true
HasNumbers plan names (line.Put r e) =
    (is_register plan (number_of names r wanted.Register) ≡ true) × (is_expr plan e ≡ true)
HasNumbers plan names (line.If e) = is_expr plan e ≡ true
HasNumbers plan names (line.Repeat e) = is_expr plan e ≡ true
HasNumbers plan names (line.Spend e) = is_expr plan e ≡ true
HasNumbers plan names (line.Log e) = is_expr plan e ≡ true
HasNumbers plan names (line.Return e) = is_expr plan e ≡ true
HasNumbers plan names form = Unit {0}

-- ---- the open blocks

-- a `repeat` that is open has its statement before the one with number n
abbrev IsBegun : ℕ → Nest → Type 0
IsBegun n nest.Branch = Unit {0}
IsBegun n (nest.Loop l k) = k < n

pub record IsNested (blocks : List Nest) (n : ℕ) : Type 0 where
  pub few : length blocks ≤ 16
  pub begun : Every (IsBegun n) blocks

begun_later : (n m : ℕ) (x : Nest) → n ≤ m → IsBegun n x → IsBegun m x
begun_later n m nest.Branch h b = tt
begun_later n m (nest.Loop l k) h b = omega (arith, b)

all_later : (n m : ℕ) (blocks : List Nest) → n ≤ m → Every (IsBegun n) blocks → Every (IsBegun m) blocks
all_later n m blocks h b = every_map (IsBegun n) (IsBegun m) (λ x. begun_later n m x h) blocks b

every_front : (P : Nest → Type 0) (front : List Nest) (x : Nest) → Every P (front ++ x ∷ []) → Every P front × P x
every_front P [] x h = (tt, h.0)
every_front P (y ∷ ys) x h = let rest = every_front P ys x h.1 in ((h.0, rest.0), rest.1)

every_last : (P : Nest → Type 0) (front : List Nest) (x : Nest) → Every P front → P x → Every P (front ++ x ∷ [])
every_last P [] x h p = (p, tt)
every_last P (y ∷ ys) x h p = (h.0, every_last P ys x h.1 p)

open_more : (blocks : List Nest) (n m : ℕ) (x : Nest) → IsNested blocks n → length blocks < 16 → n ≤ m → IsBegun m x → IsNested (blocks ++ x ∷ []) m
open_more blocks n m x h few grows b =
    let long = length_last blocks x in
    record { few = omega arith; begun = every_last (IsBegun m) blocks x (all_later n m blocks grows h.begun) b }

same_blocks : (blocks : List Nest) (n m : ℕ) → IsNested blocks n → n ≤ m → IsNested blocks m
same_blocks blocks n m h grows = record { few = h.few; begun = all_later n m blocks grows h.begun }

ended_nest : (blocks : List Nest) (n m : ℕ) → HasLast blocks → IsNested blocks n → n ≤ m → IsNested (outer blocks) m
ended_nest blocks n m s h grows =
    let few = h.few in
    let long : length blocks ≡ length s.front + 1 = ap length s.is ∙ length_last s.front s.last in
    let front = every_front (IsBegun n) s.front s.last (subst (Every (IsBegun n)) s.is h.begun) in
    let without : outer blocks ≡ s.front = ap outer s.is ∙ outer_last s.front s.last in
    rw without (record { few = omega arith; begun = all_later n m s.front grows front.0 })

nested_after : (blocks : List Nest) (n m number : ℕ) (form : SceneLine) → ends_block (length blocks) form ≡ false → stands_inside (length blocks) form ≡ true → IsCounted blocks (nests_after blocks n number form) n m form → IsNested blocks n → IsNested (nests_after blocks n number form) m
unfolding nests_after statements_in
nested_after blocks n m number line.End ends may c h =
    ended_nest blocks n m (with_last blocks (open_before (length blocks) ends)) h c.grows
nested_after blocks n m number (line.If x) ends may c h =
    open_more blocks n m nest.Branch h (ltb-true (length blocks) 16 may) c.grows tt
nested_after blocks n m number (line.Repeat x) ends may c h =
    let adds : m + loops (blocks ++ nest.Loop number n ∷ []) ≡ n + loops blocks + 2 = c.number in
    let inner = loops_last blocks (nest.Loop number n) in
    open_more blocks n m (nest.Loop number n) h (ltb-true (length blocks) 16 may) c.grows (omega arith)
nested_after blocks n m number form ends may c h = same_blocks blocks n m h c.grows

-- ---- the ways on from a statement

onward_along : (blocks : List Nest) (m : ℕ) → IsAlong blocks (record { skipping = 0; left = 0; number = m }) blocks m
onward_along blocks m =
    record { number = omega arith; depth = omega arith; inside = omega arith }

beyond_along : (blocks : List Nest) (m k : ℕ) → 0 < length blocks → k ≤ m + loops blocks → IsAlong blocks (record { skipping = 1; left = 0; number = k }) blocks m
beyond_along blocks m k some' h =
    record { number = h; depth = omega arith; inside = omega arith }

-- ways on from a line lead no further than this
Bounded : List Nest → ℕ → List NumberedLine → ℕ → Type 0
Bounded behind m rest total = (m ≤ total) × ((way : Course) → IsAlong behind way behind m → reach behind way rest ≤ total)

-- ---- what a statement does

-- each variable has a number below 16
abbrev pub AreFew : List (List ℕ) → Type 0
AreFew variables = (n : List ℕ) → variable_of variables n < 16

same_act : (plan : Plan) (total : ℕ) (a b : Act) → Some a ≡ Some b → act_fits plan total a ≡ true → act_fits plan total b ≡ true
same_act plan total a b e h = let same : a ≡ b = cc in rw (← same) h

variable_fits : (variables : List (List ℕ)) (n : List ℕ) → AreFew variables → is_variable (variable_of variables n) ≡ true
variable_fits variables n few = lt-ltb (variable_of variables n) 16 (few n)

answer_fits : (variables : List (List ℕ)) (into : Option (List ℕ)) → AreFew variables → is_answer_place (answer_place variables into) ≡ true
answer_fits variables None few = refl
answer_fits variables (Some n) few = variable_fits variables n few

again_fits : (plan : Plan) (total : ℕ) (front : List Nest) (x : Nest) (n : ℕ) (a : Act) → IsNested (front ++ x ∷ []) n → n ≤ total → again (front ++ x ∷ []) (Some x) ≡ Some a → act_fits plan total a ≡ true
again_fits plan total front nest.Branch n a h within e = absurd (let z : ⊥ = cc in z)
again_fits plan total front (nest.Loop l k) n a h within e =
    let long = length_last front (nest.Loop l k) in
    let few = h.few in
    let begun : k < n = (every_front (IsBegun n) front (nest.Loop l k) h.begun).1 in
    let inner : loops (outer (front ++ nest.Loop l k ∷ [])) ≡ loops front = ap loops (outer_last front (nest.Loop l k)) in
    let few' = loops_few front in
    same_act plan total _ a e (and_from _ _ (lt-ltb (loops (outer (front ++ nest.Loop l k ∷ []))) 16 (omega arith)) (le-leb (k + 1) total (omega arith)))

end_fits : (plan : Plan) (total : ℕ) (blocks : List Nest) (n : ℕ) (a : Act) → HasLast blocks → IsNested blocks n → n ≤ total → again blocks (nest_at blocks 0) ≡ Some a → act_fits plan total a ≡ true
end_fits plan total blocks n a s h within e =
    let there : nest_at blocks 0 ≡ Some s.last = ap (λ bs. nest_at bs 0) s.is ∙ nest_last s.front s.last in
    let same : again blocks (Some s.last) ≡ Some a = subst (λ o. again blocks o ≡ Some a) there e in
    again_fits plan total s.front s.last n a (subst (λ bs. IsNested bs n) s.is h) within (subst (λ bs. again bs (Some s.last) ≡ Some a) s.is same)

act_on_fits : (plan : Plan) (names : List Declaration) (variables : List (List ℕ)) (blocks : List Nest) (n number total : ℕ) (form : SceneLine) (rest : List NumberedLine) (a : Act) → AreFew variables → HasNumbers plan names form → ends_block (length blocks) form ≡ false → stands_inside (length blocks) form ≡ true → IsNested blocks n → Bounded (nests_after blocks n number form) (n + 1) rest total → act_on names variables blocks (nests_after blocks n number form) n form rest ≡ Some a → act_fits plan total a ≡ true
unfolding act_on plain_act nests_after Bounded
act_on_fits plan names variables blocks n number total line.End rest a few h ends may nested ways e =
    let past = ways.0 in
    end_fits plan total blocks n a (with_last blocks (open_before (length blocks) ends)) nested (omega arith) e
act_on_fits plan names variables blocks n number total (line.If x) rest a few h ends may nested ways e =
    let long = length_last blocks nest.Branch in
    let behind = blocks ++ nest.Branch ∷ [] in
    let far = ways.1 (record { skipping = 1; left = 0; number = n + 1 }) (beyond_along behind (n + 1) (n + 1) (omega arith) (omega arith)) in
    same_act plan total _ a e (and_from (is_expr plan x) _ h (le-leb (beyond behind (n + 1) rest) total far))
act_on_fits plan names variables blocks n number total (line.Repeat x) rest a few h ends may nested ways e =
    let long = length_last blocks (nest.Loop number n) in
    let inner = loops_last blocks (nest.Loop number n) in
    let behind = blocks ++ nest.Loop number n ∷ [] in
    let far = ways.1 (record { skipping = 1; left = 0; number = n + 2 }) (beyond_along behind (n + 1) (n + 2) (omega arith) (omega arith)) in
    let small = ltb-true (length blocks) 16 may in
    let few' = loops_few blocks in
    same_act plan total _ a e (and_from _ _ (and_from (is_expr plan x) _ h (lt-ltb (loops blocks) 16 (omega arith))) (le-leb (beyond behind (n + 2) rest) total far))
act_on_fits plan names variables blocks n number total (line.Let x y) rest a few h ends may nested ways e =
    same_act plan total _ a e (and_from _ _ (variable_fits variables x few) h)
act_on_fits plan names variables blocks n number total (line.Call k into x y z) rest a few h ends may nested ways e =
    same_act plan total _ a e (and_from _ _ (and_from _ _ (and_from _ _ (answer_fits variables into few) h.0) h.1) h.2)
act_on_fits plan names variables blocks n number total (line.Get x r) rest a few h ends may nested ways e =
    same_act plan total _ a e (and_from _ _ (variable_fits variables x few) h)
act_on_fits plan names variables blocks n number total (line.Put r y) rest a few h ends may nested ways e =
    same_act plan total _ a e (and_from _ _ h.0 h.1)
act_on_fits plan names variables blocks n number total (line.Spend y) rest a few h ends may nested ways e = same_act plan total _ a e h
act_on_fits plan names variables blocks n number total (line.Log y) rest a few h ends may nested ways e = same_act plan total _ a e h
act_on_fits plan names variables blocks n number total (line.Return y) rest a few h ends may nested ways e = same_act plan total _ a e h
act_on_fits plan names variables blocks n number total form rest a few h ends may nested ways e = absurd (let z : ⊥ = cc in z)

-- ---- the statements of the lines of a callback

-- a statement comes of what its line does
pub record IsMade {A B : Type 0} (f : A → B) (o : Option A) (b : B) : Type 0 where
  pub from : A
  pub is : o ≡ Some from
  pub makes : f from ≡ b

pub made : {A B : Type 0} (f : A → B) (o : Option A) (b : B) → option_map f o ≡ Some b → IsMade f o b
made f None b e = absurd (let z : ⊥ = cc in z)
made f (Some a) b e = record { from = a; is = refl; makes = cc }

line_fits : (plan : Plan) (names : List Declaration) (variables : List (List ℕ)) (blocks : List Nest) (n total : ℕ) (l : NumberedLine) (rest : List NumberedLine) (s : Statement) → AreFew variables → HasNumbers plan names l.form → ends_block (length blocks) l.form ≡ false → stands_inside (length blocks) l.form ≡ true → IsNested blocks n → Bounded (nests_after blocks n l.number l.form) (n + 1) rest total → statement_at names variables blocks n l rest ≡ Some s → statement_fits plan total s ≡ true
unfolding statement_on Bounded
line_fits plan names variables blocks n total l rest s few h ends may nested ways e =
    let behind = nests_after blocks n l.number l.form in
    let m = made (λ a. record { line = told_line blocks l.number l.form; next = onward behind (n + 1) rest; act = a }) (act_on names variables blocks behind n l.form rest) s e in
    let near = ways.1 (record { skipping = 0; left = 0; number = n + 1 }) (onward_along behind (n + 1)) in
    subst (λ x. statement_fits plan total x ≡ true) m.makes (and_from _ _ (le-leb (onward behind (n + 1) rest) total near) (act_on_fits plan names variables blocks n l.number total l.form rest m.from few h ends may nested ways m.is))

with_statement : (P : Statement → Type 0) (o : Option Statement) (ss : List Statement) → ((s : Statement) → o ≡ Some s → P s) → Every P ss → Every P (cons_option o ss)
with_statement P None ss f h = h
with_statement P (Some s) ss f h = (f s refl, h)

from_end : (names : List Declaration) (variables : List (List ℕ)) (blocks : List Nest) (n : ℕ) (l : NumberedLine) (ls : List NumberedLine) → ends_block (length blocks) l.form ≡ true → statements_from names variables blocks n (l ∷ ls) ≡ []
unfolding statements_from
from_end names variables blocks n l ls e = rw (same_end (length blocks) l.form, e) refl

from_line : (names : List Declaration) (variables : List (List ℕ)) (blocks : List Nest) (n : ℕ) (l : NumberedLine) (ls : List NumberedLine) → ends_block (length blocks) l.form ≡ false → statements_from names variables blocks n (l ∷ ls) ≡ cons_option (statement_at names variables blocks n l ls) (statements_from names variables (nests_after blocks n l.number l.form) (number_after n (statement_at names variables blocks n l ls)) ls)
unfolding statements_from
from_line names variables blocks n l ls e = rw (same_end (length blocks) l.form, e) refl

bounded : (names : List Declaration) (variables : List (List ℕ)) (behind : List Nest) (n m total : ℕ) (o : Option Statement) (ls : List NumberedLine) (s : Statement) → IsBody (length behind) ls → m ≡ number_after n o → o ≡ Some s → end_from names variables behind m ls ≡ total → Bounded behind (n + 1) ls total
unfolding Bounded
bounded names variables behind n m total o ls s body is some' e =
    let next : m ≡ n + 1 = is ∙ ap (number_after n) some' in
    (omega arith, λ way along. subst (λ t. reach behind way ls ≤ t) e (reach_within names variables behind way behind m ls (rw next along) body))

pub statements_fit : (plan : Plan) (names : List Declaration) (variables : List (List ℕ)) (blocks : List Nest) (n total : ℕ) (ls : List NumberedLine) → AreFew variables → Every (λ l. HasNumbers plan names l.form) ls → IsBody (length blocks) ls → IsNested blocks n → end_from names variables blocks n ls ≡ total → Every (λ s. statement_fits plan total s ≡ true) (statements_from names variables blocks n ls)
statements_fit plan names variables blocks n total [] few h body nested e = absurd body
statements_fit plan names variables blocks n total (l ∷ ls) few h (inl ends) nested e =
    rw (from_end names variables blocks n l ls ends) tt
statements_fit plan names variables blocks n total (l ∷ ls) few h (inr body) nested e =
    let c = counted_line names variables blocks n l ls body.0 body.1 in
    let o = statement_at names variables blocks n l ls in
    let m = number_after n o in
    let behind = nests_after blocks n l.number l.form in
    let rest = body_after (depth_after (length blocks) l.form) (length behind) ls c.depth body.2 in
    let later = sym (end_later names variables blocks n l ls body.0) ∙ e in
    rw (from_line names variables blocks n l ls body.0) (with_statement (λ s. statement_fits plan total s ≡ true) o (statements_from names variables behind m ls) (λ s is. line_fits plan names variables blocks n total l ls s few h.0 body.0 body.1 nested (bounded names variables behind n m total o ls s rest refl is later) is) (statements_fit plan names variables behind m total ls few h.1 rest (nested_after blocks n m l.number l.form body.0 body.1 c nested) later))
