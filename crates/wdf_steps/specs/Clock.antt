-- That the clock holds the tick until which a frame spends.
use Rattle.std.specs.Prelude.{◌+◌, ◌<◌, ◌^◌, ⊤}
use Rattle.wdf_base.specs.declared.event.Event.{Event}
use Rattle.wdf_base.specs.declared.event.Event.TheVariants as event
use Rattle.wdf_model.specs.State.{State}

abbrev pub FitsClock : {A : Type 0} → State A → Event → Type 0
FitsClock S (event.Spend cpu n) = S.clock + n < 2 ^ 64
FitsClock S _ = ⊤
