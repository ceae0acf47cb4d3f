-- The rows are moved, and are in order then.
use Rattle.std.proofs.Common.{rules}
use Rattle.std.specs.Ordering.{is_lt}
use Rattle.std.proofs.lemmas.List.Sorted.{answers_always}
use Rattle.wdf_table.specs.declared.row.Row.{Row}
use Rattle.wdf_table.specs.Rows.{row_cmp}
use Rattle.wdf_table.proofs.Merging.{tally_moved, rows_in_order}
use Rattle.wdf_table.proofs.tally.Tally.sort.Goals as goal

pub returns : goal.returns
returns c = λ entries tally.
    record {
      tally = tally_moved entries c.self.inside.rows.items c.sort_unstable_by.new.self.items c.sort_unstable_by.ensures.permutation (rw c.self.view_is tally);
      ordered = c.sort_unstable_by.ensures.sorted (λ (a b : Row). is_lt (row_cmp a b)) rows_in_order (answers_always _ _ _ (λ f a r g h. search rules));
    }
