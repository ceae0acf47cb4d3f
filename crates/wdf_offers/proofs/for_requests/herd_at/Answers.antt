-- The event is that of the request with this number.
use Rattle.std.proofs.Common.{◌≡◌, ◌<◌, length, slice_get, Some, option_map, sym, ap, ◌∙◌, arith}
use Rattle.wdf_base.specs.declared.ids.ObjectId.{ObjectId}
use Rattle.wdf_model.specs.rules.Groups.{callback_for, starts_for}
use Rattle.wdf_offers.specs.ForRequests.{due_for, herd_group, rank_of}
use Rattle.wdf_offers.specs.Search.{offered_from}
use Rattle.wdf_offers.proofs.Herds.{begins, begun, due_number, herd_at_is}
use Rattle.wdf_offers.proofs.Leavers.{leaver_there}
use Rattle.wdf_offers.proofs.for_requests.herd_at.Goals as goal

pub returns-then-k-len : goal.returns-then-k-len
returns-then-k-len g c =
    let all = c.herd_len-len.ensures.length in
    let past = c.if-k-len.true in
    omega arith

pub at-requires-clause-can_be : goal.at-requires-clause-can_be
at-requires-clause-can_be g c =
    let plan = c.args.plan.now in
    let S = c.args.parts.now in
    let low : c.args.k < length (offered_from plan g.A.Agent.meaning S (herd_group c.args.herd c.args.cpu.0 c.args.q.0) 0) = omega (arith, c.if-k-len.false, c.herd_len-len.ensures.length) in
    (begins plan g.A.Agent.meaning S c.args.cpu.0 c.args.q.0 c.args.herd c.requires.exact (begun plan g.A.Agent.meaning S c.args.cpu.0 c.args.q.0 c.args.herd c.requires.exact c.args.k low)).1

pub returns-in-Some : goal.returns-in-Some
returns-in-Some g c =
    let plan = c.args.plan.now in
    let S = c.args.parts.now in
    let low : c.args.k < length (offered_from plan g.A.Agent.meaning S (herd_group c.args.herd c.args.cpu.0 c.args.q.0) 0) = omega (arith, c.if-k-len.false, c.herd_len-len.ensures.length) in
    let on = begun plan g.A.Agent.meaning S c.args.cpu.0 c.args.q.0 c.args.herd c.requires.exact c.args.k low in
    let at : slice_get (due_for plan S c.args.herd c.args.q.0) c.args.k ≡ Some c.in-Some.r.0 = sym c.at.ensures ∙ ap (option_map (λ (r : ObjectId). r.0)) c.in-Some.is in
    rw (c.starts_for.ensures, c.callback.ensures)
    (herd_at_is plan g.A.Agent.meaning S c.args.cpu.0 c.args.q.0 c.args.herd c.requires.exact on c.args.k
    ∙ ap (option_map (λ r. starts_for plan S c.args.cpu.0 (callback_for (rank_of c.args.herd)) c.args.q.0 r)) at)

pub returns-in-None : goal.returns-in-None
returns-in-None g c =
    let plan = c.args.plan.now in
    let S = c.args.parts.now in
    let low : c.args.k < length (offered_from plan g.A.Agent.meaning S (herd_group c.args.herd c.args.cpu.0 c.args.q.0) 0) = omega (arith, c.if-k-len.false, c.herd_len-len.ensures.length) in
    let number = due_number plan g.A.Agent.meaning S c.args.cpu.0 c.args.q.0 c.args.herd c.requires.exact (begun plan g.A.Agent.meaning S c.args.cpu.0 c.args.q.0 c.args.herd c.requires.exact c.args.k low) in
    let within : c.args.k < length (due_for plan S c.args.herd c.args.q.0) = omega arith in
    absurd (leaver_there (due_for plan S c.args.herd c.args.q.0) c.args.k c.at.result (λ r. r.0) within c.at.ensures c.in-None.is)
