-- What is so of the ranges in their order is so of the ranges.
use Rattle.std.proofs.Common.{rules}
use Rattle.std.specs.Ordering.{is_lt}
use Rattle.std.proofs.lemmas.List.Sorted.{answers_always}
use Rattle.wdf_sum.specs.declared.line.Seeds.{Seeds}
use Rattle.wdf_sum.specs.Sums.{seeds_cmp}
use Rattle.wdf_sum.proofs.Joining.{none_of, seeds_in_order}
use Rattle.wdf_sum.proofs.joined.first_of.Goals as goal

pub returns-clause-apart : goal.returns-clause-apart
returns-clause-apart c =
    none_of c.args.ends.items c.sort_unstable_by.new.self.items c.first_of_ordered.result c.sort_unstable_by.ensures.permutation
    (c.sort_unstable_by.ensures.sorted (λ (a b : Seeds). is_lt (seeds_cmp a b)) seeds_in_order (answers_always _ _ _ (λ f a r g h. search rules))) (rw c.as_slice.ensures.value at c.first_of_ordered.ensures.apart)
