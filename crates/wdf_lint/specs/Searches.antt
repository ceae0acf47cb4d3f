-- What a search of a callback's states has found. (own)
use Rattle.std.specs.Prelude.{if◌then◌else◌, ◌≡◌, ◌<◌, ◌≤◌, ℕ, ◌-◌, Bool, true, false, ◌==◌, List, [], ◌∷◌, ◌++◌, length, Option, Some, None, slice_get}
use Rattle.std.specs.List.{list_any}
use Rattle.wdf_base.specs.declared.plan.Plan.{Plan}
use Rattle.wdf_lint.specs.declared.state.Abstract.{Abstract}
use Rattle.wdf_lint.specs.declared.search.Search.{Search}
use Rattle.wdf_lint.specs.Abstracts.{start}
use Rattle.wdf_lint.specs.Steps.{steps}
use Rattle.wdf_lint.specs.Walks.{IsIn, IsWalk, line_at, lines_of}
use Rattle.wdf_lint.specs.Findings.{IsBig, STATES}
use Rattle.wdf_lint.specs.Paths.{NoLater, goes_before, longer}

-- a search's table: the states in the order in which they were found, the number of the path of each, and the paths
pub record Table : Type 0 where
  pub states : List Abstract
  pub ranks : List ℕ
  pub paths : List (List ℕ)

-- the table of a search
abbrev pub table_of : Search → Table
table_of s = record { states = s.states.keys; ranks = s.ranks.items; paths = s.paths }

-- ---- one state more

-- the paths with that of a new state: a path that goes on path r, unless the last new path has its line
abbrev pub with_path : List (List ℕ) → ℕ → Option ℕ → ℕ → List (List ℕ)
with_path paths r None line = paths ++ longer paths r line ∷ []
with_path paths r (Some last) line = if last == line then paths else paths ++ longer paths r line ∷ []

-- a table to which states are added, and the line of the last path that was made for them
pub record Adding : Type 0 where
  pub table : Table
  pub last : Option ℕ

-- the table with a state of some line that isn't in it, by path r
abbrev pub with_state : Table → ℕ → Option ℕ → ℕ → Abstract → Table
with_state t r last line a = record {
  states = t.states ++ a ∷ [];
  ranks = t.ranks ++ (length (with_path t.paths r last line) - 1) ∷ [];
  paths = with_path t.paths r last line;
}

-- and with one that may be in it
abbrev pub added : Bool → ℕ → ℕ → Adding → Abstract → Adding
added true r line x a = x
added false r line x a = record { table = with_state x.table r x.last line a; last = Some line }

-- where a test of equality of states and the line of each are given
abbrev pub added_by : (Abstract → Abstract → Bool) → (Abstract → ℕ) → ℕ → Adding → Abstract → Adding
added_by same line r x a = added (list_any (same a) x.table.states) r (line a) x a

-- ---- what a table is

-- the path of the state at a place
abbrev pub PathAt : Table → ℕ → List ℕ → Type 0
PathAt t i p = (r : ℕ) × (slice_get t.ranks i ≡ Some r) × (slice_get t.paths r ≡ Some p)

-- each state has a path, which is that of a walk to it; a state's path doesn't come before those of the states before it
pub record IsTable (plan : Plan) (k : ℕ) (t : Table) : Type 0 where
  pub first : slice_get t.states 0 ≡ Some (start plan k)
  pub opens : PathAt t 0 (line_at plan k (start plan k) ∷ [])
  pub many : length t.ranks ≡ length t.states
  pub named : (i : ℕ) (r : ℕ) → slice_get t.ranks i ≡ Some r → r < length t.paths
  pub walked : (i : ℕ) (a : Abstract) (p : List ℕ) → slice_get t.states i ≡ Some a → PathAt t i p → (before : List Abstract) × IsWalk plan k (a ∷ before) × (p ≡ lines_of plan k (a ∷ before))
  pub in_order : (i j : ℕ) (r s : ℕ) → i ≤ j → slice_get t.ranks i ≡ Some r → slice_get t.ranks j ≡ Some s → r ≤ s
  pub rising : (m n : ℕ) (p q : List ℕ) → m < n → slice_get t.paths m ≡ Some p → slice_get t.paths n ≡ Some q → goes_before p q ≡ true

-- A search at a place: the states before it were followed, and no path of theirs is one of the states from there on.
pub record IsSearch (plan : Plan) (k : ℕ) (t : Table) (next : ℕ) : Type 0 where
  pub table : IsTable plan k t
  pub apart : (i j : ℕ) (r s : ℕ) → i < next → next ≤ j → slice_get t.ranks i ≡ Some r → slice_get t.ranks j ≡ Some s → r < s
  -- what follows such a state is in the table, by a path that isn't later than the state's with a line more
  pub closed : (i : ℕ) (a b : Abstract) (p : List ℕ) → i < next → slice_get t.states i ≡ Some a → PathAt t i p → IsIn b (steps plan k a)
      → (j : ℕ) × (q : List ℕ) × (slice_get t.states j ≡ Some b) × PathAt t j q × NoLater q (p ++ line_at plan k b ∷ [])
  -- and whatever follows a state from there on comes after all paths
  pub open_ : (n j : ℕ) (p q : List ℕ) (line : ℕ) → next ≤ j → slice_get t.paths n ≡ Some p → PathAt t j q → goes_before p (q ++ line ∷ []) ≡ true

-- A whole search: each walk ends at a state of the table, whose path isn't later.
pub record IsSearched (plan : Plan) (k : ℕ) (t : Table) : Type 0 where
  pub table : IsTable plan k t
  pub all : (a : Abstract) (before : List Abstract) → IsWalk plan k (a ∷ before)
      → (i : ℕ) × (p : List ℕ) × (slice_get t.states i ≡ Some a) × PathAt t i p × NoLater p (lines_of plan k (a ∷ before))
  pub few : length t.states ≤ STATES

-- a whole search, or none where there are too many states
abbrev pub IsSearchedOrBig : Plan → ℕ → Option Search → Type 0
IsSearchedOrBig plan k None = IsBig plan k
IsSearchedOrBig plan k (Some s) = IsSearched plan k (table_of s)
