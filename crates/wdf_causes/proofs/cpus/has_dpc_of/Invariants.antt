-- Whether one from here on is queued is whether one is.
use Rattle.std.proofs.Common.{◌≡◌}
use Rattle.wdf_model.specs.rules.Waits.{has_dpc_of}
use Rattle.wdf_causes.proofs.OnDeclared.{queued_from}
use Rattle.wdf_causes.proofs.cpus.has_dpc_of.Given as goal

abbrev pub invariant-loop-k : goal.invariant-loop-k
invariant-loop-k g l = queued_from l.plan l.parts l.d.0 l.cpu.0 l.k ≡ has_dpc_of l.plan l.parts l.d.0 l.cpu.0
