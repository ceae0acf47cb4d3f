-- As many events as were counted were passed.
use Rattle.std.proofs.Common.{◌-◌, ◌≤◌, ◌^◌}
use Rattle.wdf_offers.specs.Search.{offered_from}
use Rattle.wdf_offers.proofs.Passing.{Passed}
use Rattle.wdf_ready.proofs.search.searched_len.Given as goal

abbrev pub invariant-search : goal.invariant-search
invariant-search g l = record {
  passed : Passed (offered_from l.plan g.A.Agent.meaning l.parts l.group 0) (offered_from l.plan g.A.Agent.meaning l.parts l.group l.at) l.count;
  few : l.count ≤ l.at;
  within : l.at ≤ 2 ^ 32;
}

abbrev pub decreases-search : goal.decreases-search
decreases-search g l = 2 ^ 32 - l.at
