-- What is found, with what is left, comes to the least of all.
use Rattle.std.proofs.Common.{◌≡◌, None}
use Rattle.wdf_causes.proofs.OnDeclared.{running_from}
use Rattle.wdf_causes.proofs.keepers.least_on_managed.Given as goal

abbrev pub invariant-loop-k : goal.invariant-loop-k
invariant-loop-k g l = running_from l.plan l.parts l.d.0 l.k l.least ≡ running_from l.plan l.parts l.d.0 0 None
