-- Walks through a callback, and when a plan is clean. (own)
use Rattle.std.specs.Prelude.{◌≡◌, ℕ, List, [], ◌∷◌, map, reverse, Some, None, slice_get, unwrap_or, option_map}
use Rattle.wdf_base.specs.declared.plan.Plan.{Plan}
use Rattle.wdf_base.specs.declared.script.Script.{Script}
use Rattle.wdf_model.specs.rules.Script.{line_of_statement}
use Rattle.wdf_lint.specs.declared.state.Abstract.{Abstract}
use Rattle.wdf_lint.specs.Abstracts.{start}
use Rattle.wdf_lint.specs.Steps.{breaks, statement_of, steps}

-- an item of a list
abbrev pub IsIn : {T : Type 0} → T → List T → Type 0
IsIn x xs = (place : ℕ) × (slice_get xs place ≡ Some x)

-- the states of a walk of the callback of script k, the latest first: each is one of those after the one before it
abbrev pub IsWalk : Plan → ℕ → List Abstract → Type 0
IsWalk plan k [] = ⊥
IsWalk plan k (a ∷ []) = a ≡ start plan k
IsWalk plan k (a ∷ b ∷ before) = IsIn a (steps plan k b) × IsWalk plan k (b ∷ before)

-- a state that a walk comes to
abbrev pub IsReached : Plan → ℕ → Abstract → Type 0
IsReached plan k a = (before : List Abstract) × IsWalk plan k (a ∷ before)

-- the line of the `on` of script k
abbrev pub line_of_callback : Plan → ℕ → ℕ
line_of_callback plan k = unwrap_or (option_map (λ (s : Script). s.line) (slice_get plan.scripts k)) 0

-- the line of a state's statement; at the callback's end that of its `on`
abbrev pub line_at : Plan → ℕ → Abstract → ℕ
line_at plan k a = line_of_statement (line_of_callback plan k) (statement_of plan k a)

-- the lines of a walk, the first first
abbrev pub lines_of : Plan → ℕ → List Abstract → List ℕ
lines_of plan k walk = reverse (map (line_at plan k) walk)

-- no state that a walk comes to breaks a rule
abbrev pub IsClean : Plan → Type 0
IsClean plan = (k : ℕ) (a : Abstract) → IsReached plan k a → breaks plan k a ≡ None
