-- The k-th that comes back is the k-th that is parked.
use Rattle.std.proofs.Common.{◌≡◌, length, sym, ◌∙◌, arith}
use Rattle.wdf_model.specs.rules.Groups.{unparks}
use Rattle.wdf_offers.proofs.ComingBack.{coming_is, missing}
use Rattle.wdf_offers.proofs.parked.coming_at.Goals as goal

pub returns-in-Some : goal.returns-in-Some
returns-in-Some g c =
    coming_is c.args.parts.now c.args.plan.now g.A.Agent.meaning c.args.cpu.0 c.requires.all c.args.k
    ∙ sym c.unparks.ensures ∙ c.in-Some.is

pub returns-in-None : goal.returns-in-None
returns-in-None g c =
    let past = missing (unparks c.args.cpu.0) c.args.parts.now.cpus.parked c.args.k (sym c.unparks.ensures ∙ c.in-None.is) in
    let many : c.parked_len.result ≡ length c.args.parts.now.cpus.parked = rw c.cpus.ensures at c.parked_len.ensures in
    let all = c.requires.all in
    omega arith
