-- The findings of the states so far are noted.
use Rattle.wdf_lint.specs.Searches.{table_of}
use Rattle.wdf_lint.proofs.Best.{AreBreaches}
use Rattle.wdf_lint.proofs.static_check.breaches.Given as goal

abbrev pub invariant-loop-n : goal.invariant-loop-n
invariant-loop-n l = AreBreaches l.plan l.w.script (table_of l.search) l.found.items l.n
