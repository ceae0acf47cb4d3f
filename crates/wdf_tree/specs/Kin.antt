-- The children of each object that have come so far in their deletion, as families of lists hold them.
use Rattle.std.specs.Prelude.{if◌then◌else◌, ℕ, ◌≡◌, ◌+◌, ◌<◌, ◌==◌, Bool, not, ◌&&◌, nat_lt, List, [], ◌∷◌, ◌++◌, length, slice_set}
use Rattle.wdf_base.specs.declared.object.Life.{Life}
use Rattle.wdf_base.specs.Lives.{is_gone, is_past_cleanup}
use Rattle.wdf_ilist.specs.Family.{Family, list_at}
use Rattle.wdf_model.specs.declared.entries.Node.{Node}
use Rattle.wdf_model.specs.declared.room.TheConstants.{OBJECTS}

-- an object that is left
abbrev pub is_left : Life → Bool
is_left l = not (is_gone l)

-- an object whose cleanup is still to come
abbrev pub is_waiting : Life → Bool
is_waiting l = not (is_past_cleanup l)

-- a child of this parent, in a life that passes a test
abbrev pub is_kin : (Life → Bool) → ℕ → Node → Bool
is_kin test parent n = (n.parent.0 == parent) && test n.life

-- the places of the objects that pass a test, from this place on
abbrev pub places : (Node → Bool) → ℕ → List Node → List ℕ
places p k [] = []
places p k (n ∷ ns) = if p n then k ∷ places p (k + 1) ns else places p (k + 1) ns

-- A family of lists holds for each object its children in a life that passes a test, by rising ids.
pub record HoldsKin (test : Life → Bool) (nodes : List Node) (family : Family) : Type 0 where
  pub as_many : length family.lists ≡ OBJECTS
  pub room : family.items ≡ OBJECTS
  pub kin : (parent : ℕ) → parent < OBJECTS → list_at family.lists parent ≡ places (is_kin test parent) 0 nodes

-- the family with one child more, if there is a list for its parent
abbrev pub joined : Family → ℕ → ℕ → Family
joined family parent id =
    if nat_lt parent OBJECTS then record family { lists = slice_set family.lists parent (list_at family.lists parent ++ id ∷ []) } else family
