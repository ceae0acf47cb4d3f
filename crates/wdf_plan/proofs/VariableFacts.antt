-- A callback has at most 16 variables.
use Rattle.std.proofs.Common.{◌≡◌, inl, inr, ℕ, zero, suc, ◌+◌, ◌<◌, ◌≤◌, Bool, true, false, cond, List, [], ◌∷◌, ◌++◌, drop, length, Option, Some, None, slice_get, refl, ap, sym, subst, ◌∙◌, arith, append_assoc, length-append}
use Rattle.std.proofs.lemmas.Bool.{leb-false, lt-ltb, or_parts}
use Rattle.std.proofs.lemmas.List.{append-nil}
use Rattle.std.proofs.lemmas.List.Quantifiers.{position-Some}
use Rattle.std.proofs.lemmas.Slice.Eq.{bytes_eq-Decides}
use Rattle.std.specs.Option.{unwrap_or}
use Rattle.std.specs.List.{list_any, position_or_len}
use Rattle.std.specs.Str.{bytes_eq}
use Rattle.wdf_base.specs.declared.call.Callback.{Callback}
use Rattle.wdf_scene.specs.declared.line.NumberedLine.{NumberedLine}
use Rattle.wdf_scene.specs.declared.line.SceneLine.TheVariants as line
use Rattle.wdf_scene.specs.declared.scene.Scene.{Scene}
use Rattle.wdf_scene.specs.Written.{IsScene}
use Rattle.wdf_blocks.specs.declared.placed.Counts.{Counts}
use Rattle.wdf_blocks.specs.declared.placed.Placed.{Placed}
use Rattle.wdf_blocks.specs.declared.placed.Stand.{Stand}
use Rattle.wdf_blocks.specs.Blocks.{depth_after, ends_block}
use Rattle.wdf_blocks.specs.Forms.{assigned_name}
use Rattle.wdf_refusals.specs.Limits.{exceeds, over_variables}
use Rattle.wdf_blocks.specs.Placed.{counted, opened_by, placed_from, placed}
use Rattle.wdf_plan.specs.Scripts.{variable_of}
use Rattle.wdf_blocks.specs.Variables.{with_assigned, assigned_from, variables, variables_in, variables_at, variable_number}
use Rattle.wdf_plan.proofs.Accepted.{IsAccepted}
use Rattle.wdf_plan.proofs.Bodies.{HasBody, every_body}
use Rattle.wdf_refusals.proofs.Every.{Every, every_map, every_at}
use Rattle.wdf_plan.proofs.InCallbacks.{callback_begun, IsWithin, goes_on}
use Rattle.wdf_plan.proofs.Nesting.{IsBody}
use Rattle.wdf_plan.proofs.Stacking.{IsPassed, passed, every_passed}
use Rattle.wdf_plan.proofs.Stacks.{Opener, stand_of, AreOpened}

-- ---- the names that are assigned only grow

-- a list with this front
record Begins (front whole : List (List ℕ)) : Type 0 where
  rest : List (List ℕ)
  is : whole ≡ front ++ rest

begins_self : (names : List (List ℕ)) → Begins names names
begins_self names = record { rest = []; is = sym (append-nil names) }

begins_trans : (a b c : List (List ℕ)) → Begins a b → Begins b c → Begins a c
begins_trans a b c f g =
    record { rest = f.rest ++ g.rest; is = g.is ∙ (ap (λ x. x ++ g.rest) f.is ∙ append_assoc a f.rest g.rest) }

begins_name : (names : List (List ℕ)) (n : List ℕ) (b : Bool) → Begins names (cond b names (names ++ n ∷ []))
begins_name names n true = begins_self names
begins_name names n false = record { rest = n ∷ []; is = refl }

begins_with : (names : List (List ℕ)) (o : Option (List ℕ)) → Begins names (with_assigned names o)
begins_with names None = begins_self names
begins_with names (Some n) = begins_name names n (list_any (bytes_eq n) names)

begins_step : (names more : List (List ℕ)) (b : Bool) → Begins names more → Begins names (cond b names more)
begins_step names more true h = begins_self names
begins_step names more false h = h

begins_from : (names : List (List ℕ)) (depth : ℕ) (ls : List NumberedLine) → Begins names (assigned_from names depth ls)
unfolding assigned_from
begins_from names depth [] = begins_self names
begins_from names depth (l ∷ ls) =
    begins_step names _ (ends_block depth l.form) (begins_trans names (with_assigned names (assigned_name l.form)) _ (begins_with names (assigned_name l.form)) (begins_from (with_assigned names (assigned_name l.form)) (depth_after depth l.form) ls))

-- ---- a name that is new has the number of those before it

same_bytes : (n : List ℕ) → bytes_eq n n ≡ true
same_bytes n = (bytes_eq-Decides n n).1 refl

first_place : (n : List ℕ) (front rest : List (List ℕ)) → list_any (bytes_eq n) front ≡ false → position_or_len (bytes_eq n) (front ++ n ∷ rest) ≡ length front
first_place n [] rest h = rw (same_bytes n) refl
first_place n (x ∷ xs) rest h =
    let both = or_parts (bytes_eq n x) (list_any (bytes_eq n) xs) h in
    rw (both.0, first_place n xs rest both.1) (omega arith)

new_number : (n : List ℕ) (front rest : List (List ℕ)) → list_any (bytes_eq n) front ≡ false → variable_number (front ++ n ∷ rest) n ≡ Some (length front)
unfolding variable_number
new_number n front rest h =
    let both : length (front ++ n ∷ rest) ≡ length front + length (n ∷ rest) = length-append front (n ∷ rest) in
    let there : length front < length (front ++ n ∷ rest) = omega arith in
    rw (first_place n front rest h, lt-ltb (length front) (length (front ++ n ∷ rest)) there) refl

grown_step : (whole names : List (List ℕ)) (n : List ℕ) (b : Bool) → list_any (bytes_eq n) names ≡ b → Begins (cond b names (names ++ n ∷ [])) whole → over_variables whole (Some n) ≡ false → length names ≤ 16 → length (cond b names (names ++ n ∷ [])) ≤ 16
grown_step whole names n true is h over fits = fits
grown_step whole names n false is h over fits =
    let e : whole ≡ names ++ n ∷ h.rest = h.is ∙ append_assoc names (n ∷ []) h.rest in
    let number : variable_number whole n ≡ Some (length names) = ap (λ w. variable_number w n) e ∙ new_number n names h.rest is in
    let below : length names < 16 = leb-false 16 (length names) (rw number at over) in
    let both : length (names ++ n ∷ []) ≡ length names + 1 = length-append names (n ∷ []) in
    omega arith

grown : (whole names : List (List ℕ)) (o : Option (List ℕ)) → Begins (with_assigned names o) whole → over_variables whole o ≡ false → length names ≤ 16 → length (with_assigned names o) ≤ 16
grown whole names None h over fits = fits
grown whole names (Some n) h over fits =
    grown_step whole names n (list_any (bytes_eq n) names) refl h over fits

-- ---- through the lines of a callback

-- the line assigns no variable past the sixteenth
abbrev AssignsWithin : Scene → Placed → Type 0
AssignsWithin scene p = over_variables (variables_at scene p) (assigned_name p.form) ≡ false

assigns_within : (scene : Scene) (p : Placed) → IsAccepted scene p → AssignsWithin scene p
unfolding exceeds
assigns_within scene p a = a.within.1.1.1.1.1.1.1.1.1.1.0

-- the lines from line j on, where the callback of line k is open at this depth
bound_from : (scene : Scene) (names : List (List ℕ)) (k depth j : ℕ) (o : Stand) (c : Counts) (ls : List NumberedLine) → IsBody depth ls → Every (AssignsWithin scene) (placed_from j o c ls) → IsWithin o k depth → variables scene k ≡ assigned_from names depth ls → length names ≤ 16 → length (variables scene k) ≤ 16
unfolding placed_from assigned_from variables_at variables_in
bound_from scene names k depth j o c [] body a w e fits = absurd body
bound_from scene names k depth j o c (l ∷ ls) (inl ends) a w e fits =
    let all : variables scene k ≡ names = e ∙ rw ends refl in
    rw all fits
bound_from scene names k depth j o c (l ∷ ls) (inr body) a w e fits =
    let more = with_assigned names (assigned_name l.form) in
    let all : variables scene k ≡ assigned_from more (depth_after depth l.form) ls = e ∙ rw body.0 refl in
    let begins : Begins more (variables scene k) = rw all (begins_from more (depth_after depth l.form) ls) in
    let over : over_variables (variables scene k) (assigned_name l.form) ≡ false = rw w.callback at a.0 in
    bound_from scene more k (depth_after depth l.form) (suc j) (opened_by o j l.form) (counted c l.form (length l.picks)) ls body.2 a.1 (goes_on o k j depth l.form w body.0 body.1) all (grown (variables scene k) names (assigned_name l.form) begins over fits)

-- ---- at most 16

every_drop : {T : Type 0} (P : T → Type 0) (k : ℕ) (xs : List T) → Every P xs → Every P (drop k xs)
every_drop P zero xs h = h
every_drop P (suc k) [] h = tt
every_drop P (suc k) (x ∷ xs) h = every_drop P k xs h.1

-- the callback that line k begins has at most 16 variables
pub variables_bound : (scene : Scene) → IsScene scene → Every (IsAccepted scene) (placed scene) → (k : ℕ) (p : Placed) (c : Callback) → slice_get (placed scene) k ≡ Some p → p.form ≡ line.On c → length (variables scene k) ≤ 16
unfolding opened_by variables
variables_bound scene s each k p c there is =
    let h = passed scene s k p there in
    let o : opened_by p.stand k p.form ≡ record p.stand { callback = Some k; nested = 0 } = rw is refl in
    let all : Every (AssignsWithin scene) (placed scene) = every_map (IsAccepted scene) (AssignsWithin scene) (assigns_within scene) (placed scene) each in
    let behind : Every (AssignsWithin scene) (placed_from (suc k) (opened_by p.stand k p.form) (counted p.counts p.form (length h.line.picks)) (drop (suc k) scene.lines)) = subst (Every (AssignsWithin scene)) h.behind (every_drop (AssignsWithin scene) (suc k) (placed scene) all) in
    let own : p.at ≡ k = ap (λ (x : Placed). x.at) h.placed' in
    let body : IsBody 0 (drop (suc k) scene.lines) = rw own at (every_at (HasBody scene) (placed scene) (every_body scene s) k p there c is) in
    bound_from scene [] k 0 (suc k) (opened_by p.stand k p.form) (counted p.counts p.form (length h.line.picks)) (drop (suc k) scene.lines) body behind (record { callback = ap (λ (x : Stand). x.callback) o; nested = ap (λ (x : Stand). x.nested) o }) refl (omega arith)

line_step : (scene : Scene) → IsScene scene → Every (IsAccepted scene) (placed scene) → (stack : List Opener) → AreOpened (placed scene) stack → (callback : Option ℕ) → (stand_of stack).callback ≡ callback → length (variables_in scene callback) ≤ 16
unfolding variables_in
line_step scene s each stack h None e = omega arith
line_step scene s each stack h (Some k) e =
    let b = callback_begun (placed scene) stack k h e in
    variables_bound scene s each k b.opener b.callback b.there b.is

-- the variables of the callback in which a line is are at most 16
pub line_variables : (scene : Scene) → IsScene scene → Every (IsAccepted scene) (placed scene) → Every (λ p. length (variables_at scene p) ≤ 16) (placed scene)
unfolding variables_at
line_variables scene s each =
    every_map (λ p. (slice_get (placed scene) p.at ≡ Some p) × IsPassed scene p.at p) (λ p. length (variables_at scene p) ≤ 16) (λ p h. line_step scene s each h.1.stack h.1.stacked.open' p.stand.callback (sym (ap (λ (x : Stand). x.callback) h.1.stacked.stand))) (placed scene) (every_passed scene s)

pub variable_small : (variables : List (List ℕ)) (n : List ℕ) (v : ℕ) → length variables ≤ 16 → variable_number variables n ≡ Some v → v < 16
unfolding variable_number
variable_small variables n v fits e =
    let there : v < length variables = (position-Some (bytes_eq n) variables v [] e).0 in
    omega arith

small_or_none : (o : Option ℕ) → ((v : ℕ) → o ≡ Some v → v < 16) → unwrap_or o 0 < 16
small_or_none None h = omega arith
small_or_none (Some v) h = h v refl

-- the number of a variable, 0 for none, is below 16
pub variable_within : (variables : List (List ℕ)) (n : List ℕ) → length variables ≤ 16 → variable_of variables n < 16
unfolding variable_of
variable_within variables n fits =
    small_or_none (variable_number variables n) (λ v e. variable_small variables n v fits e)
