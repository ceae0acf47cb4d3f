-- The findings of the callbacks so far are there.
use Rattle.std.proofs.Common.{◌<◌}
use Rattle.wdf_lint.specs.Found.{IsAllOf}
use Rattle.wdf_lint.proofs.static_check.all_findings.Given as goal

abbrev pub invariant-loop-script : goal.invariant-loop-script
invariant-loop-script l = IsAllOf l.plan (λ k. k < l.script) l.found.items
