-- The objects whose deletion isn't finished, as sets of ids.
use Rattle.std.specs.Prelude.{ℕ, ◌≡◌, ◌≤◌, Bool, List, length}
use Rattle.wdf_base.specs.declared.object.Life.{Life}
use Rattle.wdf_base.specs.Lives.{is_asked, is_cleaned}
use Rattle.wdf_model.specs.Tables.{entry}
use Rattle.wdf_model.specs.declared.entries.Node.{Node}
use Rattle.wdf_model.specs.declared.room.TheConstants.{OBJECTS}
use Rattle.wdf_model.specs.parts.Tree.{gone}
use Rattle.wdf_sets.specs.Members.{is_in}

-- A set has a bit for each object, and its members are the objects in a life that passes a test.
pub record HoldsLives (test : Life → Bool) (nodes : List Node) (bits : List Bool) : Type 0 where
  pub room : OBJECTS ≤ length bits
  pub same : (id : ℕ) → is_in id bits ≡ test (entry gone nodes id).life

-- One set has the objects whose deletion was asked, another those that are cleaned up.
pub record HoldsLeaving (nodes : List Node) (asked_bits cleaned_bits : List Bool) : Type 0 where
  pub asked : HoldsLives is_asked nodes asked_bits
  pub cleaned : HoldsLives is_cleaned nodes cleaned_bits
