-- Whether one from here on is blocked is whether one is.
use Rattle.std.proofs.Common.{◌≡◌}
use Rattle.wdf_base.specs.declared.event.Stage.TheVariants as stage
use Rattle.wdf_model.specs.rules.Waits.{stage_cpus}
use Rattle.wdf_causes.proofs.OnCpus.{blocked_from}
use Rattle.wdf_causes.proofs.cpus.no_cpu_for_dpc.Given as goal

abbrev pub invariant-loop-cpu : goal.invariant-loop-cpu
invariant-loop-cpu g l = blocked_from l.plan l.parts l.d.0 l.cpu ≡ stage_cpus l.plan l.parts l.d.0 stage.Quiet
