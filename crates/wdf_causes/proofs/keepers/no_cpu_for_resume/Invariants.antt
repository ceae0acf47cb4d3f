-- Whether none is left for one from here on is whether none is left for one.
use Rattle.std.proofs.Common.{◌≡◌}
use Rattle.wdf_model.specs.rules.Waits.{resume_cpus}
use Rattle.wdf_causes.proofs.OnDeclared.{left_from}
use Rattle.wdf_causes.proofs.keepers.no_cpu_for_resume.Given as goal

abbrev pub invariant-loop-k : goal.invariant-loop-k
invariant-loop-k g l = left_from l.plan l.parts l.d.0 l.k ≡ resume_cpus l.plan l.parts l.d.0
