-- The place moves on by one for each that is kept back.
use Rattle.std.proofs.Common.{◌≡◌, ◌+◌, ◌-◌, ◌≤◌, length}
use Rattle.wdf_offers.specs.Leaving.{fits_part, may_leave}
use Rattle.wdf_offers.proofs.Numbered.{below}
use Rattle.wdf_offers.proofs.leaving.Leaving.at.Given as goal

abbrev pub invariant-search : goal.invariant-search
invariant-search g l = record {
  counted : l.place + below (may_leave l.self l.parts) l.at ≡ l.k + below (fits_part l.self l.parts) l.at;
  low : below (fits_part l.self l.parts) l.at ≤ l.place;
  few : l.place ≤ l.k + l.at;
  within : l.at ≤ length l.parts.tree.nodes;
}

abbrev pub decreases-search : goal.decreases-search
decreases-search g l = length l.parts.tree.nodes - l.at
