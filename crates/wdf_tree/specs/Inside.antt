-- What the fields of the tree say: the tree that they stand for, and what is kept beside it.
use Rattle.std.specs.Prelude.{ℕ, ◌≡◌, ◌≤◌, ◌<◌, Bool, true, ◌==◌, not, ◌&&◌, ◌||◌, List, [], length, map, count_by, vec_capacity}
use Rattle.std.specs.List.{list_all}
use Rattle.wdf_base.specs.declared.ids.ObjectId.{ObjectId}
use Rattle.wdf_base.specs.declared.object.Kind.TheVariants as kind
use Rattle.wdf_base.specs.Same.{same_kind}
use Rattle.wdf_base.specs.Lives.{is_gone}
use Rattle.wdf_ilist.specs.Family.{Family}
use Rattle.wdf_model.specs.Tables.{entry}
use Rattle.wdf_model.specs.declared.entries.Node.{Node}
use Rattle.wdf_model.specs.declared.room.TheConstants.{OBJECTS}
use Rattle.wdf_model.specs.parts.Tree.{Tree, counts, gone, nearest_devices}
use Rattle.wdf_tree.specs.Kin.{HoldsKin, is_left, is_waiting}
use Rattle.wdf_tree.specs.Leaving.{HoldsLeaving}
use Rattle.wdf_tree.specs.Turns.{HoldsCounted, HoldsEnds, HoldsTurns}
use Rattle.wdf_tree.specs.declared.tree.Tree.TheInside.{Inside}

abbrev pub tree_in : Inside → Tree
tree_in t = record { limit = t.limit; nodes = t.nodes }

-- an object that has no place in the tree: it isn't a device and has no parent
abbrev pub is_alone : Node → Bool
is_alone n = (n.parent.0 == 0) && not (same_kind n.kind kind.Device)

-- what is gone is alone
abbrev pub ends_alone : Node → Bool
ends_alone n = not (is_gone n.life) || is_alone n

-- What is gone has no place in the tree; the id 0 is gone.
pub record EndsAlone (nodes : List Node) : Type 0 where
  pub some : 0 < length nodes
  pub none : is_gone (entry gone nodes 0).life ≡ true
  pub alone : list_all ends_alone nodes ≡ true

-- The nearest devices, a count and two families of children are kept, and there is room for each object.
pub record IsKept (nodes : List Node) (nearest : List ObjectId) (count device_room : ℕ) (children waiting : Family) : Type 0 where
  pub few : length nodes ≤ OBJECTS
  pub room_for_devices : OBJECTS ≤ device_room
  pub devices : map (λ d. d.0) nearest ≡ nearest_devices [] nodes
  pub counted : count ≡ count_by counts nodes
  pub ends : EndsAlone nodes
  -- the children that are left, and those whose cleanup is still to come
  pub kin : HoldsKin is_left nodes children
  pub waiting_kin : HoldsKin is_waiting nodes waiting

-- All that is kept: this, the sets of the objects whose deletion isn't finished, those of what may be cleaned up or destroyed, and that of what counts against the limit.
pub record IsSound (t : Inside) : Type 0 where
  pub kept : IsKept t.nodes t.devices.items t.count (vec_capacity t.devices) t.children t.waiting
  pub leaving : HoldsLeaving t.nodes t.asked t.cleaned
  pub turns : HoldsTurns t.nodes t.waiting.lists t.turns
  pub ends : HoldsEnds t.nodes t.children.lists t.ends
  pub counted : HoldsCounted t.nodes t.counted
