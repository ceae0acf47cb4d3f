-- At no place so far is the completion routine due.
use Rattle.std.proofs.Common.{◌-◌, ◌≤◌}
use Rattle.wdf_base.specs.declared.rank.Rank.TheVariants as rank
use Rattle.wdf_sets.specs.Nexts.{NoneFrom}
use Rattle.wdf_offers.specs.Idle.{is_due_at}
use Rattle.wdf_offers.proofs.due.next_routine.Given as goal

abbrev pub invariant-search : goal.invariant-search
invariant-search g l = record {
  after : l.from ≤ l.at;
  none : NoneFrom (is_due_at l.plan l.parts rank.Completion l.t.0) l.from l.at;
}

abbrev pub decreases-search : goal.decreases-search
decreases-search g l = l.end - l.at
