-- The waits for the locks below the id are counted.
use Rattle.std.proofs.Common.{◌≡◌, ◌-◌, ◌≤◌, count_by}
use Rattle.wdf_model.specs.declared.room.TheConstants.{OBJECTS}
use Rattle.wdf_offers.proofs.ComingBack.{is_freed_below}
use Rattle.wdf_offers.proofs.parked.freed_len.Given as goal

abbrev pub invariant-search : goal.invariant-search
invariant-search g l = record { counted : l.count ≡ count_by (is_freed_below l.parts l.at) l.parts.cpus.parked; low : 1 ≤ l.at; within : l.at ≤ OBJECTS }

abbrev pub decreases-search : goal.decreases-search
decreases-search g l = OBJECTS - l.at
