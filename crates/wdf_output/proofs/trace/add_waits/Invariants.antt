-- The lines before this one were added, the others are left, and no write failed.
use Rattle.std.proofs.Common.{◌≡◌, drop, take}
use Rattle.wdf_model.specs.rules.Waits.{wait_list}
use Rattle.wdf_lines.specs.Endings.{wait_lines}
use Rattle.wdf_core.specs.Walks.{waits_from}
use Rattle.wdf_output.specs.Said.{Adds}
use Rattle.wdf_output.proofs.trace.add_waits.Given as goal

abbrev pub invariant-loop-k : goal.invariant-loop-k
invariant-loop-k g l = record {
  added : Adds (g.K.Sink.written l.initial.sink) (g.K.Sink.written l.sink) l.initial.page l.page (wait_lines l.core.plan (take l._k (wait_list l.core.plan g.A.Agent.meaning l.core.journal)));
  left : waits_from l.core.plan g.A.Agent.meaning l.core.journal l.place ≡ drop l._k (wait_list l.core.plan g.A.Agent.meaning l.core.journal);
  quiet : g.K.Sink.faults l.sink ≡ g.K.Sink.faults l.initial.sink;
}
