-- What is left from the place on is the wait list without so many lines.
use Rattle.std.proofs.Common.{◌≡◌, drop}
use Rattle.wdf_model.specs.rules.Waits.{wait_list}
use Rattle.wdf_core.specs.Walks.{waits_from}
use Rattle.wdf_core.proofs.machine.Core.wait_place.Given as goal

abbrev pub invariant-loop-line : goal.invariant-loop-line
invariant-loop-line g l = waits_from l.self.plan g.A.Agent.meaning l.self.journal l.place ≡ drop l._line (wait_list l.self.plan g.A.Agent.meaning l.self.journal)
