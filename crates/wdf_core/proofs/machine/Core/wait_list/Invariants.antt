-- The lines before this one came, and the others are left.
use Rattle.std.proofs.Common.{◌≡◌, drop, take}
use Rattle.wdf_model.specs.rules.Waits.{wait_list}
use Rattle.wdf_core.specs.Walks.{waits_from}
use Rattle.wdf_core.proofs.machine.Core.wait_list.Given as goal

abbrev pub invariant-loop-line : goal.invariant-loop-line
invariant-loop-line g l = record {
  came : l.waits.items ≡ take l._line (wait_list l.self.plan g.A.Agent.meaning l.self.journal);
  left : waits_from l.self.plan g.A.Agent.meaning l.self.journal l.place ≡ drop l._line (wait_list l.self.plan g.A.Agent.meaning l.self.journal);
}
