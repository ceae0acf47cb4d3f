-- What is kept back is taken away from what fits.
use Rattle.std.proofs.Common.{arith}
use Rattle.wdf_offers.proofs.Leavers.{leavers_few}
use Rattle.wdf_offers.proofs.leaving.Leaving.len.Goals as goal

pub returns-then-all-eq0-clause-count : goal.returns-then-all-eq0-clause-count
returns-then-all-eq0-clause-count g c =
    let few = leavers_few c.args.self c.args.parts.now in
    let all = c.fitting_len-all.ensures.count in
    let none = c.if-all-eq0.true in
    omega arith
