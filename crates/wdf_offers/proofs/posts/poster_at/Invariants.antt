-- As many posts as are no longer left were passed.
use Rattle.std.proofs.Common.{◌-◌, ◌≤◌}
use Rattle.wdf_model.specs.declared.enums.Group.TheVariants as group
use Rattle.wdf_offers.specs.Search.{offered_from}
use Rattle.wdf_offers.proofs.Passing.{Passed}
use Rattle.wdf_offers.proofs.posts.poster_at.Given as goal

abbrev pub invariant-loop-agent : goal.invariant-loop-agent
invariant-loop-agent g l = record {
  passed : Passed (offered_from l.plan g.A.Agent.meaning l.parts group.Posts 0) (offered_from l.plan g.A.Agent.meaning l.parts group.Posts l.agent) (l.k - l.left);
  few : l.left ≤ l.k;
}
