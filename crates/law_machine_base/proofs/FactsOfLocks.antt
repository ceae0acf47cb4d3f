-- The lock of each callback under each scope, by computation.
use Rattle.std.proofs.Common.{◌≡◌, refl}
use Rattle.wdf_base.specs.declared.declared.Scope.{Scope}
use Rattle.wdf_base.specs.declared.declared.Scope.TheVariants as scope
use Rattle.law_machine_base.specs.FactsOfLocks.{locks_under, locks_expected}

pub each_lock : (s : Scope) → locks_under s ≡ locks_expected s
each_lock scope.PerDevice = refl
each_lock _ = refl
