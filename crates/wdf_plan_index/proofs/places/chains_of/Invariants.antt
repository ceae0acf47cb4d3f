-- The places from here on are linked.
use Rattle.std.proofs.Common.{◌≡◌, ◌<◌, ◌≤◌, length}
use Rattle.wdf_plan_index.specs.Places.{AreLinkedFrom}
use Rattle.wdf_plan_index.proofs.places.chains_of.Given as goal

abbrev pub invariant-link : goal.invariant-link
invariant-link l = record {
  within : l.at ≤ length l.numbers;
  some : 0 < length l.heads.items;
  as_many : length l.nexts.items ≡ length l.numbers;
  linked : AreLinkedFrom l.numbers l.heads.items l.nexts.items (length l.heads.items) l.at;
}

abbrev pub decreases-link : goal.decreases-link
decreases-link l = l.at
