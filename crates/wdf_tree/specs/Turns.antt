-- The objects whose cleanup may come by lives alone, and those that may be destroyed by the tree alone, as sets of ids.
use Rattle.std.specs.Prelude.{ℕ, ◌≡◌, ◌≤◌, ◌⊎◌, ◌==◌, Bool, not, ◌&&◌, ◌||◌, List, filter, length}
use Rattle.wdf_base.specs.Lives.{is_asked, is_cleaned}
use Rattle.wdf_ilist.specs.Family.{last_of, list_at}
use Rattle.wdf_model.specs.Tables.{entry, ids_of, same_id}
use Rattle.wdf_model.specs.declared.entries.Node.{Node}
use Rattle.wdf_model.specs.declared.room.TheConstants.{OBJECTS}
use Rattle.wdf_model.specs.parts.Tree.{Tree, counts, gone, life_of, may_clean, may_destroy, node_of}
use Rattle.wdf_sets.specs.Members.{is_in}

-- the objects whose cleanup may come by lives alone, by rising id
abbrev pub turns_of : Tree → List ℕ
turns_of T = filter (may_clean T) (ids_of T.nodes)

-- the objects that may be destroyed by the tree alone, by rising id
abbrev pub ends_of : Tree → List ℕ
ends_of T = filter (may_destroy T) (ids_of T.nodes)

-- the first, where lists hold the children of each object that wait for cleanup
abbrev pub is_turn : List Node → List (List ℕ) → ℕ → Bool
is_turn nodes waiting o =
    is_asked (entry gone nodes o).life
    && length (list_at waiting o) == 0
    && (not (is_asked (entry gone nodes (entry gone nodes o).parent.0).life) || same_id (last_of (list_at waiting (entry gone nodes o).parent.0)) o)

-- the other, where lists hold the children of each object that are left
abbrev pub is_end : List Node → List (List ℕ) → ℕ → Bool
is_end nodes children o = is_cleaned (entry gone nodes o).life && (entry gone nodes o).references == 0 && length (list_at children o) == 0

-- Those of them that count against the limit: none is an arrived request. And the objects of these that are cleaned up.
abbrev pub is_counted_turn : Tree → ℕ → Bool
is_counted_turn T o = may_clean T o && counts (node_of T o)

abbrev pub is_counted_cleaned : Tree → ℕ → Bool
is_counted_cleaned T o = is_cleaned (life_of T o) && counts (node_of T o)

-- A set has a bit for each object, and its members are the objects that count.
pub record HoldsCounted (nodes : List Node) (bits : List Bool) : Type 0 where
  pub room : OBJECTS ≤ length bits
  pub same : (id : ℕ) → is_in id bits ≡ counts (entry gone nodes id)

-- A set has a bit for each object, and its members are the objects whose cleanup may come.
pub record HoldsTurns (nodes : List Node) (waiting : List (List ℕ)) (bits : List Bool) : Type 0 where
  pub room : OBJECTS ≤ length bits
  pub same : (id : ℕ) → is_in id bits ≡ is_turn nodes waiting id

-- The same of those that may be destroyed.
pub record HoldsEnds (nodes : List Node) (children : List (List ℕ)) (bits : List Bool) : Type 0 where
  pub room : OBJECTS ≤ length bits
  pub same : (id : ℕ) → is_in id bits ≡ is_end nodes children id

-- Some bits were written: each is as it was, or as the test says.
pub record AreNoted (test : ℕ → Bool) (before after : List Bool) : Type 0 where
  pub size : length after ≡ length before
  pub each : (id : ℕ) → (is_in id after ≡ is_in id before) ⊎ (is_in id after ≡ test id)
