-- All devices are at the opening, and no step is left.
use Rattle.std.proofs.Common.{◌*◌, length, ap, arith}
use Rattle.std.specs.Int.{div_ceil}
use Rattle.wdf_pnp.proofs.Stepping.{opening_stepping}
use Rattle.wdf_pnp.proofs.pnp.Pnp.make.Goals as goal

pub invariant_of-result : goal.invariant_of-result
invariant_of-result c =
    let all = ap length c.in_ok-devices.ensures in
    opening_stepping c.args.plan.now _ _ (4096 * div_ceil c.len.result 4096) c.in_ok-devices.ensures c.in_ok-stepping.ensures (omega (arith, c.len.ensures, all))

pub returns : goal.returns
returns c = ap (λ ds. record { devices = ds }) c.in_ok-devices.ensures
