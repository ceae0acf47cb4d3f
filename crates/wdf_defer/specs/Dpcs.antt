-- What the fields of the DPC lists say.
use Rattle.std.specs.Prelude.{◌≡◌}
use Rattle.wdf_model.specs.declared.room.TheConstants.{OBJECTS}
use Rattle.wdf_model.specs.parts.Deferred.Dpcs.{Dpcs}
use Rattle.wdf_defer.specs.declared.dpcs.Dpcs.TheInside.{Inside}

abbrev pub dpcs_in : Inside → Dpcs
dpcs_in d = record { lists = d.queued.lists }

-- There is room for all objects.
pub record IsSound (d : Inside) : Type 0 where
  pub room : d.queued.items ≡ OBJECTS
