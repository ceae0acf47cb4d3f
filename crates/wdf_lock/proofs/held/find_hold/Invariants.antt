-- What is found from the place on is what is found.
use Rattle.std.proofs.Common.{◌≡◌, drop, find}
use Rattle.wdf_lock.specs.Holds.{is_of}
use Rattle.wdf_lock.proofs.held.find_hold.Given as goal

abbrev pub invariant-loop-held : goal.invariant-loop-held
invariant-loop-held l = find (is_of l.lock) l.all ≡ find (is_of l.lock) (drop l.held-index l.all)
