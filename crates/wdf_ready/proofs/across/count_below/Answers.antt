-- Those below an id come first, as the ids rise.
use Rattle.std.proofs.Common.{nat_lt, of_calls, rules}
use Rattle.std.proofs.lemmas.Fn.{always_returns_same}
use Rattle.std.proofs.lemmas.List.Sorted.{IsPartitionedBy-ltb}
use Rattle.wdf_ready.proofs.across.count_below.Goals as goal

pub returns-clause-splits : goal.returns-clause-splits
returns-clause-splits c =
    c.partition_point.ensures.partitioned (λ x. nat_lt x c.args.id) (always_returns_same _ _ _ (λ a r f k. search (rules, of_calls)))
    (IsPartitionedBy-ltb (λ x. x) c.args.ids.now c.args.id c.requires.rising)
