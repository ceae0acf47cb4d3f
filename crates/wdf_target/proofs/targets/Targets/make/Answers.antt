use Rattle.std.proofs.Common.{◌*◌, arith}
use Rattle.std.specs.Int.{div_ceil}
use Rattle.wdf_target.proofs.Noting.{noted_opened}
use Rattle.wdf_target.proofs.Openings.{kept_at_first}
use Rattle.wdf_target.proofs.targets.Targets.make.Goals as goal

pub invariant_of-result : goal.invariant_of-result
invariant_of-result c = record {
  kept = rw c.in_ok-holders.ensures.items (kept_at_first c.args.plan.now c.in_ok-targets.targets.items c.in_ok-targets.ensures);
  room = omega (arith, c.in_ok-holders.ensures.exact);
  noted = noted_opened c.args.plan.now c.in_ok-targets.targets.items _ (4096 * div_ceil c.len.result 4096) c.in_ok-targets.ensures (omega (arith, c.len.ensures)) c.in_ok-with_done.ensures;
}
