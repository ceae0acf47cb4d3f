-- What was passed had no line; the sections that are left get fewer.
use Rattle.std.proofs.Common.{◌≡◌, length}
use Rattle.wdf_waits.specs.Walks.{lines_at, sections_after}
use Rattle.wdf_waits.proofs.walk.next_wait.Given as goal

abbrev pub invariant-loop-line : goal.invariant-loop-line
invariant-loop-line g l = lines_at l.plan g.A.Agent.meaning l.parts l.place ≡ lines_at l.plan g.A.Agent.meaning l.parts l.fn.from

abbrev pub decreases-loop-line : goal.decreases-loop-line
decreases-loop-line g l = length (sections_after l.place.section)
