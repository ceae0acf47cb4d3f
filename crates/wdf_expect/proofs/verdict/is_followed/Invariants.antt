-- What is open is what the events before this one left open.
use Rattle.std.proofs.Common.{◌≡◌, drop}
use Rattle.wdf_expect.specs.Verdicts.{is_followed}
use Rattle.wdf_expect.proofs.Followed.{is_closed}
use Rattle.wdf_expect.proofs.verdict.is_followed.Given as goal

abbrev pub invariant-loop-event : goal.invariant-loop-event
invariant-loop-event l = is_followed l.plan l.first l.next l.events ≡ is_closed l.open l.plan l.first l.next (drop l.event-index l.events)
