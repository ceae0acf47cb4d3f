-- The lists of objects, as their fields have them: the ids of each list rise.
use Rattle.std.specs.List.Sorted.{IsNonDecreasing}
use Rattle.wdf_ready.specs.declared.blocks.Objects.TheInside.{Inside}

-- The ids of each list rise.
pub record AreRising (o : Inside) : Type 0 where
  pub targets : IsNonDecreasing o.targets.items
  pub cancels : IsNonDecreasing o.cancels.items
  pub returns : IsNonDecreasing o.returns.items
  pub stops : IsNonDecreasing o.stops.items
  pub resumes : IsNonDecreasing o.resumes.items
