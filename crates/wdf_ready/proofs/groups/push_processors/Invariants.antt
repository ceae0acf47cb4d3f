-- The groups of the processors so far.
use Rattle.std.proofs.Common.{◌≡◌, ◌++◌, filter}
use Rattle.std.specs.List.{flat_map, range_with_len}
use Rattle.wdf_model.specs.rules.Groups.{groups_of_cpu}
use Rattle.wdf_offers.specs.Search.{has_places}
use Rattle.wdf_ready.specs.Blocks.{joined}
use Rattle.wdf_ready.proofs.groups.push_processors.Given as goal

abbrev pub invariant-loop-cpu : goal.invariant-loop-cpu
invariant-loop-cpu l = joined l.objects l.made.items ≡ joined l.objects l.initial.made.items ++ filter (has_places l.plan) (flat_map (groups_of_cpu l.plan) (range_with_len 0 l.cpu))
