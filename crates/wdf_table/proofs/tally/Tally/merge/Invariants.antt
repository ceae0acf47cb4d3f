-- The rows so far are added.
use Rattle.std.proofs.Common.{◌≡◌, ◌+◌, ◌++◌, List}
use Rattle.wdf_table.specs.declared.row.Row.{Row}
use Rattle.wdf_table.specs.Tables.{IsTallyOf, all_seeds}
use Rattle.wdf_table.proofs.tally.Tally.merge.Given as goal

abbrev pub invariant-loop-row : goal.invariant-loop-row
invariant-loop-row l =
    (goal.iterator-loop-row).can_next l.row-iterator
    × (goal.iterator-loop-row).is_finite l.row-iterator
    × (all_seeds l.self ≡ all_seeds l.initial.self + all_seeds l.yielded)
    × ((entries : List Row) → IsTallyOf entries l.initial.self → IsTallyOf (entries ++ l.yielded) l.self)
