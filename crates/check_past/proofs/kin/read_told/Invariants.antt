-- What the events so far say.
use Rattle.std.proofs.Common.{◌≡◌, ℕ, nat_eq, take}
use Rattle.std.specs.HashMap.{get}
use Rattle.wdf_laws.specs.Family.{first_told}
use Rattle.check_past.proofs.kin.read_told.Given as goal

abbrev pub invariant-loop-event : goal.invariant-loop-event
invariant-loop-event l = (o : ℕ) → get nat_eq l.kept o ≡ first_told l.plan (take l.event-index l.all) o
