-- The least from here on is the least of all.
use Rattle.std.proofs.Common.{◌≡◌}
use Rattle.wdf_causes.proofs.OnRequests.{requests_from}
use Rattle.wdf_causes.proofs.least.least_request.Given as goal

abbrev pub invariant-loop-r : goal.invariant-loop-r
invariant-loop-r g l = requests_from l.plan l.parts l.test l.r ≡ requests_from l.plan l.parts l.test 0
