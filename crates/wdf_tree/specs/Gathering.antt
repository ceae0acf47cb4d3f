-- The subtree of an object, as it is gathered by rising ids.
use Rattle.std.specs.Prelude.{ℕ, ◌≡◌, ◌<◌, ◌≤◌, Bool, false, ◌==◌, nat_lt, not, ◌&&◌, ◌||◌, List, length, filter, vec_capacity}
use Rattle.std.specs.List.{range_with_len}
use Rattle.wdf_base.specs.Lives.{is_gone}
use Rattle.wdf_model.specs.declared.room.TheConstants.{OBJECTS}
use Rattle.wdf_model.specs.parts.Tree.{Tree, is_below, is_child, life_of, parent_of}
use Rattle.wdf_sets.specs.Members.{is_in}
use Rattle.wdf_tree.specs.declared.tree.gather.Subtree.TheInside.{Inside}

-- whether an object is this one or below it
abbrev pub is_within : Tree → ℕ → ℕ → Bool
is_within T o x = x == o || is_below T o x

-- whether an object is found once those of the subtree before an id were visited: it is the object itself, its child,
-- or a later child of one of those
abbrev pub is_found : Tree → ℕ → ℕ → ℕ → Bool
is_found T o from x =
    x == o || (is_child T o x
    || (nat_lt (parent_of T x) from && (nat_lt (parent_of T x) x && (is_within T o (parent_of T x) && not (is_gone (life_of T x))))))

-- The objects of the subtree before an id are gathered, and those that were found and come next are in a set.
pub record AreGathered (T : Tree) (o from : ℕ) (ids : List ℕ) (ahead : List Bool) : Type 0 where
  pub within : from ≤ length T.nodes
  pub gathered : ids ≡ filter (is_within T o) (range_with_len 0 from)
  pub visited : (x : ℕ) → x < from → is_in x ahead ≡ false
  pub found : (x : ℕ) → from ≤ x → is_in x ahead ≡ is_found T o from x

-- There is room for each object, and nothing is ahead.
pub record HasRoom (s : Inside) : Type 0 where
  pub ids : OBJECTS ≤ vec_capacity s.ids
  pub ahead : OBJECTS ≤ length s.ahead
  pub none : (x : ℕ) → is_in x s.ahead ≡ false
