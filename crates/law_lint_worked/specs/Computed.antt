-- The findings, computed: layer by layer, each state with the least lines among the walks of its length.
use Rattle.std.specs.Prelude.{if◌then◌else◌, ℕ, zero, suc, ◌+◌, Bool, true, false, ◌==◌, nat_lt, not, ◌&&◌, ◌||◌, List, [], ◌∷◌, ◌++◌, map, filter, fold, length, Some, None}
use Rattle.std.specs.List.{flat_map, list_any, range_with_len}
use Rattle.wdf_base.specs.declared.plan.Plan.{Plan}
use Rattle.wdf_base.specs.declared.event.Fault.{Fault}
use Rattle.wdf_base.specs.Same.{same_status, same_fault}
use Rattle.wdf_lint.specs.declared.state.Known.{Known}
use Rattle.wdf_lint.specs.declared.state.Known.TheVariants as known
use Rattle.wdf_lint.specs.declared.state.Hold.{Hold}
use Rattle.wdf_lint.specs.declared.state.Hold.TheVariants as hold
use Rattle.wdf_lint.specs.declared.state.HeldLock.{HeldLock}
use Rattle.wdf_lint.specs.declared.state.HeldLock.TheVariants as lock
use Rattle.wdf_lint.specs.declared.state.Abstract.{Abstract}
use Rattle.wdf_lint.specs.Abstracts.{start}
use Rattle.wdf_lint.specs.Steps.{breaks, steps}
use Rattle.wdf_lint.specs.Walks.{line_at}
use Rattle.wdf_lint.specs.Findings.{is_less, rule_number}

-- a finding with the fault of its rule
pub record Finding : Type 0 where
  pub line : ℕ
  pub rule : Fault
  pub path : List ℕ

-- one with these parts
abbrev pub found : ℕ → Fault → List ℕ → Finding
found line rule path = record { line = line; rule = rule; path = path }

-- ---- equality

-- what is known of two variables is one
abbrev pub same_known : Known → Known → Bool
same_known known.Unknown known.Unknown = true
same_known known.Zero known.Zero = true
same_known known.One known.One = true
same_known (known.Stat s) (known.Stat t) = same_status s t
same_known x y = false

-- two holds are one
abbrev pub same_hold : Hold → Hold → Bool
same_hold hold.Own hold.Own = true
same_hold hold.Marked hold.Marked = true
same_hold hold.Away hold.Away = true
same_hold hold.Stop hold.Stop = true
same_hold x y = false

-- two locks are one
abbrev pub same_lock : HeldLock → HeldLock → Bool
same_lock lock.Free lock.Free = true
same_lock (lock.In v) (lock.In w) = v == w
same_lock lock.Lost lock.Lost = true
same_lock x y = false

-- two lists have the same items
abbrev pub same_list : {T : Type 0} → (T → T → Bool) → List T → List T → Bool
same_list same [] [] = true
same_list same (x ∷ xs) (y ∷ ys) = same x y && same_list same xs ys
same_list same xs ys = false

-- two states are one
abbrev pub same_abstract : Abstract → Abstract → Bool
same_abstract a b =
    a.at == b.at && same_list same_known a.variables b.variables && same_hold a.hold b.hold && (if a.acknowledged then b.acknowledged else not b.acknowledged)
    && same_lock a.lock b.lock && same_list (λ x y. x == y) a.interrupts b.interrupts

-- ---- layers

-- a state, and the lines on the way to it
pub record Reached : Type 0 where
  pub state : Abstract
  pub path : List ℕ

-- of two ways to one state that with the lesser lines
abbrev pub lesser : Reached → Reached → Reached
lesser x y = if is_less y.path x.path then y else x

-- one more state of a layer
abbrev pub add : List Reached → Reached → List Reached
add [] r = r ∷ []
add (x ∷ xs) r = if same_abstract x.state r.state then lesser x r ∷ xs else x ∷ add xs r

-- a state at the end of a path and its own line
abbrev pub reached : Plan → ℕ → List ℕ → Abstract → Reached
reached plan k path a = record { state = a; path = path ++ line_at plan k a ∷ [] }

-- the states after one
abbrev pub following : Plan → ℕ → Reached → List Reached
following plan k r = map (reached plan k r.path) (steps plan k r.state)

-- whether a state was found before
abbrev pub is_seen : List Reached → Reached → Bool
is_seen seen r = list_any (λ x. same_abstract x.state r.state) seen

-- the states that follow a layer and were not found before
abbrev pub next_layer : Plan → ℕ → List Reached → List Reached → List Reached
next_layer plan k seen layer = fold add [] (filter (λ r. not (is_seen seen r)) (flat_map (following plan k) layer))

-- ---- findings

-- the finding of a state, if it breaks a rule
abbrev pub breach : Plan → ℕ → Reached → List Finding
breach plan k r = elim (breaks plan k r.state) as (λ _. List Finding) [
  | None ↦ []
  | Some x ↦ found (line_at plan k r.state) x r.path ∷ []
]

-- one line and rule
abbrev pub same_place : Finding → Finding → Bool
same_place f g = f.line == g.line && same_fault f.rule g.rule

-- of one layer: the least path for each line and rule
abbrev pub add_finding : List Finding → Finding → List Finding
add_finding [] f = f ∷ []
add_finding (g ∷ gs) f = if same_place g f then (if is_less f.path g.path then f ∷ gs else g ∷ gs) else g ∷ add_finding gs f

-- an earlier layer's finding stays
abbrev pub keep_findings : List Finding → List Finding → List Finding
keep_findings old new = old ++ filter (λ f. not (list_any (same_place f) old)) new

-- the findings of so many layers
abbrev pub walked : ℕ → Plan → ℕ → List Reached → List Reached → List Finding → List Finding
walked zero plan k seen layer fs = fs
walked (suc n) plan k seen [] fs = fs
walked (suc n) plan k seen (r ∷ rs) fs =
    walked n plan k (seen ++ next_layer plan k seen (r ∷ rs)) (next_layer plan k seen (r ∷ rs)) (keep_findings fs (fold add_finding [] (flat_map (breach plan k) (r ∷ rs))))

-- the start
abbrev pub first_layer : Plan → ℕ → List Reached
first_layer plan k = reached plan k [] (start plan k) ∷ []

-- the findings of script k
abbrev pub findings_of : ℕ → Plan → ℕ → List Finding
findings_of n plan k = walked n plan k (first_layer plan k) (first_layer plan k) []

-- ---- their order: by line, then by rule

-- by line, and then by rule
abbrev pub comes_first : Finding → Finding → Bool
comes_first f g = nat_lt f.line g.line || (f.line == g.line && nat_lt (rule_number f.rule) (rule_number g.rule))

-- one more, in its order
abbrev pub insert : List Finding → Finding → List Finding
insert [] f = f ∷ []
insert (g ∷ gs) f = if comes_first f g then f ∷ g ∷ gs else g ∷ insert gs f

-- the findings of the walks with at most so many states
abbrev pub findings_within : ℕ → Plan → List Finding
findings_within n plan = fold insert [] (flat_map (findings_of n plan) (range_with_len 0 (length plan.scripts)))
