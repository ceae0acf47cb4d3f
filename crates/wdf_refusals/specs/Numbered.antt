-- Each name has a number, and each object an id, that fits 32 bits.
use Rattle.std.specs.Prelude.{◌+◌, ◌<◌, ◌^◌, List, [], ◌∷◌, length}
use Rattle.wdf_blocks.specs.declared.declaration.Declaration.{Declaration}

-- each item has the property
abbrev pub Every : {T : Type 0} → (T → Type 0) → List T → Type 0
Every P [] = Unit {0}
Every P (x ∷ xs) = P x × Every P xs

-- the id of the object of this order, or the number of a class or a register
abbrev pub HasFitOrder : Declaration → Type 0
HasFitOrder d = d.order + 2 < 2 ^ 32

-- the number of each name, which is its place and 2, and the id of each object
pub record AreNumbered (names : List Declaration) : Type 0 where
  pub few : length names + 2 < 2 ^ 32
  pub orders : Every HasFitOrder names
