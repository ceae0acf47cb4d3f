-- The try of each seed is added.
use Rattle.std.proofs.Common.{◌∙◌, ap, arith}
use Rattle.wdf_table.specs.Tables.{all_seeds}
use Rattle.wdf_tries.proofs.Ranges.{none_so_far, one_more}
use Rattle.wdf_tries.proofs.range.hunt_range.Goals as goal

pub loop-k-init : goal.loop-k-init
loop-k-init c = record {
  so_far = none_so_far c.args.case.now c.args.from c.new-tally.result c.new-tally.ensures.rows c.new-tally.ensures.tally;
  seeds = ap all_seeds c.new-tally.ensures.rows;
  plan = c.in_ok-core.ensures.plan;
  few = omega arith;
}

pub loop-k-preserved : goal.loop-k-preserved
loop-k-preserved c = record {
  so_far = one_more c.args.case.now c.args.from c.loop-k.k c.loop-k.tally c.add.new.self c.loop-k.events c.in_ok-row.row c.loop-k.invariant.so_far
      (rw c.from.ensures at c.in_ok-row.ensures.row) c.in_ok-add.ensures.tally;
  seeds = omega (arith, c.in_ok-add.ensures.seeds, c.loop-k.invariant.seeds, c.in_ok-row.ensures.one);
  plan = c.try_seed.ensures.plan ∙ c.loop-k.invariant.plan;
  few = omega (arith, c.loop-k.invariant.few, c.in_ok-row.ensures.few);
}
