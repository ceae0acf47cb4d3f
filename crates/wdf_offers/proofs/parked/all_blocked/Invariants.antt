-- Each lock below the id for which a parked frame waits is held.
use Rattle.std.proofs.Common.{◌-◌, ◌≤◌}
use Rattle.wdf_model.specs.declared.room.TheConstants.{OBJECTS}
use Rattle.wdf_offers.proofs.ComingBack.{HeldBelow}
use Rattle.wdf_offers.proofs.parked.all_blocked.Given as goal

abbrev pub invariant-search : goal.invariant-search
invariant-search g l = record { held : HeldBelow l.parts l.at; within : l.at ≤ OBJECTS }

abbrev pub decreases-search : goal.decreases-search
decreases-search g l = OBJECTS - l.at
