-- What was skipped had no line.
use Rattle.std.proofs.Common.{◌≡◌}
use Rattle.wdf_waits.specs.Walks.{rest_in}
use Rattle.wdf_waits.proofs.walk.next_in.Given as goal

abbrev pub invariant-loop-id : goal.invariant-loop-id
invariant-loop-id g l = rest_in l.plan g.A.Agent.meaning l.parts l.section l.id ≡ rest_in l.plan g.A.Agent.meaning l.parts l.section l.from
