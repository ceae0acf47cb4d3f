-- What is found, with what is left, comes to the least of all.
use Rattle.std.proofs.Common.{◌≡◌, None}
use Rattle.wdf_causes.proofs.OnCpus.{heads_from}
use Rattle.wdf_causes.proofs.keepers.least_head_holder.Given as goal

abbrev pub invariant-loop-cpu : goal.invariant-loop-cpu
invariant-loop-cpu g l = heads_from l.plan l.parts l.d.0 l.cpu l.least ≡ heads_from l.plan l.parts l.d.0 0 None
