-- What is found, with what is left, comes to the least of all.
use Rattle.std.proofs.Common.{◌≡◌, None}
use Rattle.wdf_causes.proofs.OnDeclared.{holders_from}
use Rattle.wdf_causes.proofs.keepers.least_resume_holder.Given as goal

abbrev pub invariant-loop-k : goal.invariant-loop-k
invariant-loop-k g l = holders_from l.plan l.parts l.d.0 l.k l.least ≡ holders_from l.plan l.parts l.d.0 0 None
