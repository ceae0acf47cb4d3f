-- The lines rise, as the sort's closure gives the line of each state.
use Rattle.std.proofs.Common.{rules}
use Rattle.std.proofs.lemmas.List.Sorted.{IsNonDecreasingBy-from_sort_by_key}
use Rattle.wdf_lint.specs.Walks.{line_at}
use Rattle.wdf_lint.proofs.search.sort_by_line.Goals as goal

pub returns-clause-rising : goal.returns-clause-rising
returns-clause-rising c = IsNonDecreasingBy-from_sort_by_key (line_at c.args.plan.now c.args.w.now.script) _ c.in_ok-sort_by_key.ensures.sorted (λ a r q k. search rules)
