-- The first from here on is the first.
use Rattle.std.proofs.Common.{◌≡◌}
use Rattle.wdf_model.specs.rules.Waits.{cpu_of_dpc}
use Rattle.wdf_causes.proofs.OnCpus.{holding_from}
use Rattle.wdf_causes.proofs.cpus.cpu_of_dpc.Given as goal

abbrev pub invariant-loop-cpu : goal.invariant-loop-cpu
invariant-loop-cpu g l = holding_from l.plan l.parts l.o.0 l.cpu ≡ cpu_of_dpc l.plan l.parts l.o.0
