-- Each try counts one seed.
use Rattle.std.proofs.Common.{◌≡◌}
use Rattle.wdf_table.specs.Tables.{all_seeds}
use Rattle.test_hunt.proofs.tables.tally_of.Given as goal

abbrev pub invariant-loop-one : goal.invariant-loop-one
invariant-loop-one l = all_seeds l.tally ≡ l.one-index
