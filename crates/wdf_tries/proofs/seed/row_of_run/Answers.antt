-- The row says what the run is.
use Rattle.std.proofs.Common.{refl}
use Rattle.wdf_tries.proofs.seed.row_of_run.Goals as goal

pub returns-clause-row : goal.returns-clause-row
returns-clause-row c = record {
  run = c.args.core.now.journal;
  picked = c.requires;
  kind_is = c.in_ok-kind.ensures;
  count_is = refl;
  seed_is = refl;
  events_is = c.journal_len.ensures.length;
}
