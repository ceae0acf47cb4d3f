-- So many are kept back so far.
use Rattle.std.proofs.Common.{◌≡◌, ◌+◌, ◌-◌, ◌≤◌, length}
use Rattle.wdf_offers.specs.Leaving.{fits_part, may_leave}
use Rattle.wdf_offers.proofs.Numbered.{below}
use Rattle.wdf_offers.proofs.leaving.Leaving.kept_len.Given as goal

abbrev pub invariant-search : goal.invariant-search
invariant-search g l = record {
  counted : l.kept + below (may_leave l.self l.parts) l.at ≡ below (fits_part l.self l.parts) l.at;
  few : l.kept ≤ l.at;
  within : l.at ≤ length l.parts.tree.nodes;
}

abbrev pub decreases-search : goal.decreases-search
decreases-search g l = length l.parts.tree.nodes - l.at
