-- What the fields of the ticks say: the room, and that they rise.
use Rattle.std.specs.Prelude.{◌<◌, vec_capacity}
use Rattle.std.specs.List.Sorted.{IsNonDecreasing}
use Rattle.wdf_model.specs.declared.room.TheConstants.{FRAMES}
use Rattle.wdf_cpu.specs.declared.untils.Untils.TheInside.{Inside}

pub record AreInOrder (a : Inside) : Type 0 where
  pub room : FRAMES < vec_capacity a.ticks
  pub order : IsNonDecreasing a.ticks.items
