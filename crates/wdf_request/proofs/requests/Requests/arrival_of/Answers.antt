-- The rows say which request it is, if any.
use Rattle.std.proofs.Common.{◌≡◌, ◌-◌, suc, true, false, ap, sym, ◌∙◌, arith}
use Rattle.wdf_model.specs.parts.Requests.{Requests}
use Rattle.wdf_request.specs.Arrivals.{IsNoted, slot}
use Rattle.wdf_request.proofs.Saying.{found_none, found_one}
use Rattle.wdf_request.proofs.requests.Requests.arrival_of.Goals as goal

pub returns-then-slot-eq0 : goal.returns-then-slot-eq0
returns-then-slot-eq0 c =
    let same = ap (λ (R : Requests). R.all) c.self.view_is in
    let noted : IsNoted c.args.self.now.all c.self.inside.arrivals = rw (← same) c.self.invariant.noted in
    sym (found_none c.args.self.now c.self.inside.arrivals c.args.agent c.args.k noted (sym c.if-not-is_sure.ensures) (sym c.slot-slot.ensures ∙ c.if-slot-eq0.true))

pub returns-then-is_arrival : goal.returns-then-is_arrival
returns-then-is_arrival c =
    let same = ap (λ (R : Requests). R.all) c.self.view_is in
    let noted : IsNoted c.args.self.now.all c.self.inside.arrivals = rw (← same) c.self.invariant.noted in
    let s = c.slot-slot.result - 1 in
    let more : c.slot-slot.result ≡ suc s = omega arith in
    let one : slot c.self.inside.arrivals.rows c.args.agent c.args.k ≡ suc s = sym c.slot-slot.ensures ∙ more in
    sym (found_one c.args.self.now c.self.inside.arrivals c.args.agent c.args.k s true noted (sym c.if-not-is_sure.ensures) one (sym c.if-is_arrival.ensures))

pub returns-else-is_arrival : goal.returns-else-is_arrival
returns-else-is_arrival c =
    let same = ap (λ (R : Requests). R.all) c.self.view_is in
    let noted : IsNoted c.args.self.now.all c.self.inside.arrivals = rw (← same) c.self.invariant.noted in
    let s = c.slot-slot.result - 1 in
    let more : c.slot-slot.result ≡ suc s = omega arith in
    let one : slot c.self.inside.arrivals.rows c.args.agent c.args.k ≡ suc s = sym c.slot-slot.ensures ∙ more in
    sym (found_one c.args.self.now c.self.inside.arrivals c.args.agent c.args.k s false noted (sym c.if-not-is_sure.ensures) one (sym c.if-is_arrival.ensures))
