-- Whether none from this one on can take the start is whether none can.
use Rattle.std.proofs.Common.{◌≡◌}
use Rattle.wdf_model.specs.rules.Waits.{no_cpu}
use Rattle.wdf_causes.proofs.OnCpus.{none_from}
use Rattle.wdf_causes.proofs.cpus.no_cpu.Given as goal

abbrev pub invariant-loop-cpu : goal.invariant-loop-cpu
invariant-loop-cpu g l = none_from l.plan l.parts l.level.0 l.cpu ≡ no_cpu l.plan l.parts l.level.0
