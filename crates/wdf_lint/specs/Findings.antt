-- What `lint` answers: the findings of a plan, each with its path, in their order. (own)
use Rattle.std.specs.Prelude.{◌≡◌, ◌≢◌, ◌<◌, ◌⊎◌, ℕ, ◌+◌, Bool, true, false, ◌==◌, nat_lt, ◌&&◌, ◌||◌, List, [], ◌∷◌, length, position, unwrap_or, Some, slice_get}
use Rattle.std.specs.List.{AllPairs}
use Rattle.wdf_base.specs.declared.plan.Plan.{Plan}
use Rattle.wdf_base.specs.declared.event.Fault.{Fault}
use Rattle.wdf_base.specs.Same.{same_fault}
use Rattle.wdf_base.specs.declared.words.TheConstants.{FAULTS}
use Rattle.wdf_lint.specs.declared.state.Abstract.{Abstract}
use Rattle.wdf_lint.specs.Steps.{breaks}
use Rattle.wdf_lint.specs.Walks.{IsReached, IsWalk, line_at, line_of_callback, lines_of}

-- what a reader of the answer sees of a finding
pub record Finding : Type 0 where
  pub line : ℕ
  pub rule : ℕ
  pub path : List ℕ

-- the number of a rule: the place of its fault in the table of faults, from 1
abbrev pub rule_number : Fault → ℕ
rule_number x = unwrap_or (position (same_fault x) FAULTS) 0 + 1

-- where a finding is: the statement of a script at which a rule is broken; rule 0 is of the whole script, at 0
pub record Spot : Type 0 where
  pub script : ℕ
  pub at : ℕ
  pub rule : ℕ

-- ---- a callback with more reachable states than a walk keeps

-- the most states that a walk of a callback keeps
abbrev pub STATES : ℕ
STATES = 10000

-- more reachable states than that, each two of them different
pub record IsBig (plan : Plan) (k : ℕ) : Type 0 where
  pub states : List Abstract
  pub more : STATES < length states
  pub reached : (n : ℕ) (a : Abstract) → slice_get states n ≡ Some a → IsReached plan k a
  pub once : AllPairs (λ a b. a ≢ b) states

-- ---- a finding's path

-- a walk, the latest state first, to one that breaks the rule at the spot
abbrev pub IsWalkTo : Plan → Spot → List Abstract → Type 0
IsWalkTo plan s [] = ⊥
IsWalkTo plan s (a ∷ before) =
    IsWalk plan s.script (a ∷ before) × (a.at ≡ s.at) × (x : Fault) × (breaks plan s.script a ≡ Some x) × (rule_number x ≡ s.rule)

-- of two lists of one length, whether the first has the lesser numbers, compared from the first
abbrev pub is_less : List ℕ → List ℕ → Bool
is_less [] ys = false
is_less (x ∷ xs) [] = false
is_less (x ∷ xs) (y ∷ ys) = nat_lt x y || (x == y && is_less xs ys)

-- no walk to the spot is shorter, and none of its length has lesser lines
pub record IsBest (plan : Plan) (s : Spot) (walk : List Abstract) : Type 0 where
  pub goes : IsWalkTo plan s walk
  pub short : (other : List Abstract) → IsWalkTo plan s other → nat_lt (length other) (length walk) ≡ false
  pub least : (other : List Abstract) → IsWalkTo plan s other → length other ≡ length walk → is_less (lines_of plan s.script other) (lines_of plan s.script walk) ≡ false

-- the finding of a callback that is too big: rule 0, at its `on`, with an empty path
pub record IsOfSize (plan : Plan) (s : Spot) (f : Finding) : Type 0 where
  pub big : IsBig plan s.script
  pub at : s.at ≡ 0
  pub rule : s.rule ≡ 0
  pub finding : f ≡ record { line = line_of_callback plan s.script; rule = 0; path = [] }

-- the finding of a statement in any other callback: its path is that of a best walk to it
pub record IsOfStatement (plan : Plan) (s : Spot) (f : Finding) : Type 0 where
  pub small : IsBig plan s.script → ⊥
  pub walk : List Abstract
  pub best : IsBest plan s walk
  pub path : f.path ≡ lines_of plan s.script walk
  pub line : (a : Abstract) → slice_get walk 0 ≡ Some a → f.line ≡ line_at plan s.script a
  pub rule : f.rule ≡ s.rule

-- the finding at a spot
abbrev pub IsFinding : Plan → Spot → Finding → Type 0
IsFinding plan s f = IsOfSize plan s f ⊎ IsOfStatement plan s f

-- ---- all findings, in their order

-- by line, then by rule; then, where a plan has a line twice, by the script and the statement
abbrev pub comes_before : Finding → Spot → Finding → Spot → Bool
comes_before f s g t =
    nat_lt f.line g.line || (f.line == g.line && (nat_lt f.rule g.rule || (f.rule == g.rule && (nat_lt s.script t.script || (s.script == t.script && nat_lt s.at t.at)))))

-- The findings of a plan: one for each spot that has one, in order.
pub record IsFindings (plan : Plan) (fs : List Finding) : Type 0 where
  pub spots : List Spot
  pub many : length spots ≡ length fs
  pub each : (n : ℕ) (s : Spot) (f : Finding) → slice_get spots n ≡ Some s → slice_get fs n ≡ Some f → IsFinding plan s f
  pub all : (s : Spot) (f : Finding) → IsFinding plan s f → (n : ℕ) × (slice_get spots n ≡ Some s)
  pub sorted : (n : ℕ) (s t : Spot) (f g : Finding) → slice_get spots n ≡ Some s → slice_get fs n ≡ Some f → slice_get spots (n + 1) ≡ Some t → slice_get fs (n + 1) ≡ Some g → comes_before f s g t ≡ true
