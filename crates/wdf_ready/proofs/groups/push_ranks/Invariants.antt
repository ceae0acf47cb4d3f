-- The groups of the ranks so far.
use Rattle.std.proofs.Common.{◌≡◌, ◌++◌, filter, take}
use Rattle.std.specs.List.{flat_map}
use Rattle.wdf_model.specs.rules.Groups.{RANKS, groups_of_rank}
use Rattle.wdf_offers.specs.Search.{has_places}
use Rattle.wdf_ready.specs.Blocks.{joined}
use Rattle.wdf_ready.proofs.groups.push_ranks.Given as goal

abbrev pub invariant-loop-rank : goal.invariant-loop-rank
invariant-loop-rank l = joined l.objects l.made.items ≡ joined l.objects l.initial.made.items ++ filter (has_places l.plan) (flat_map (groups_of_rank l.plan l.cpu) (take l.rank-index RANKS))
