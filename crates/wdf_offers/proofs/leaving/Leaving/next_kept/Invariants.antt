-- None is kept back so far.
use Rattle.std.proofs.Common.{◌-◌, ◌≤◌}
use Rattle.wdf_sets.specs.Nexts.{NoneFrom}
use Rattle.wdf_offers.specs.Leaving.{is_kept}
use Rattle.wdf_offers.proofs.leaving.Leaving.next_kept.Given as goal

abbrev pub invariant-search : goal.invariant-search
invariant-search g l = record {
  after : l.from ≤ l.at;
  none : NoneFrom (is_kept l.self l.parts) l.from l.at;
}

abbrev pub decreases-search : goal.decreases-search
decreases-search g l = l.end - l.at
