-- The event is that of the request with this number.
use Rattle.std.proofs.Common.{if◌then◌else◌, ◌≡◌, ◌<◌, length, slice_get, Some, option_map, sym, ap, ◌∙◌, arith}
use Rattle.wdf_base.specs.declared.call.Callback.TheVariants as callback
use Rattle.wdf_base.specs.declared.ids.ObjectId.{ObjectId}
use Rattle.wdf_base.specs.declared.rank.Rank.TheVariants as rank
use Rattle.wdf_model.specs.declared.enums.Group.TheVariants as group
use Rattle.wdf_model.specs.rules.Groups.{starts_for}
use Rattle.wdf_target.specs.Finished.{finished_in}
use Rattle.wdf_offers.specs.Search.{offered_from}
use Rattle.wdf_offers.proofs.Leavers.{leaver_there}
use Rattle.wdf_offers.proofs.DueRoutines.{begun, routine_is, routines_are}
use Rattle.wdf_offers.proofs.routines.routine_at.Goals as goal

pub returns-then-k-len : goal.returns-then-k-len
returns-then-k-len g c =
    let all = c.routines_len-len.ensures.length in
    let past = c.if-k-len.true in
    omega arith

pub returns-in-Some : goal.returns-in-Some
returns-in-Some g c =
    let plan = c.args.plan.now in
    let S = c.args.parts.now in
    let low : c.args.k < length (offered_from plan g.A.Agent.meaning S (group.StartsFor c.args.cpu.0 rank.Completion c.args.t.0) 0) = omega (arith, c.if-k-len.false, c.routines_len-len.ensures.length) in
    let on = begun plan g.A.Agent.meaning S c.requires.settled c.args.cpu.0 c.args.t.0 c.args.k low in
    let at : slice_get (finished_in S.targets c.args.t.0) c.args.k ≡ Some c.in-Some.r.0 = sym (rw c.targets.ensures at c.nth_finished.ensures) ∙ ap (option_map (λ (r : ObjectId). r.0)) c.in-Some.is in
    rw c.starts_for.ensures
    (routine_is plan g.A.Agent.meaning S c.requires.settled c.args.cpu.0 c.args.t.0 on c.args.k
    ∙ ap (option_map (λ r. starts_for plan S c.args.cpu.0 callback.EvtRequestCompletion c.args.t.0 r)) at)

pub returns-in-None : goal.returns-in-None
returns-in-None g c =
    let plan = c.args.plan.now in
    let S = c.args.parts.now in
    let low : c.args.k < length (offered_from plan g.A.Agent.meaning S (group.StartsFor c.args.cpu.0 rank.Completion c.args.t.0) 0) = omega (arith, c.if-k-len.false, c.routines_len-len.ensures.length) in
    let on = begun plan g.A.Agent.meaning S c.requires.settled c.args.cpu.0 c.args.t.0 c.args.k low in
    let many = routines_are plan g.A.Agent.meaning S c.requires.settled c.args.cpu.0 c.args.t.0 ∙ ap (λ b. if b then length (finished_in S.targets c.args.t.0) else 0) on in
    let within : c.args.k < length (finished_in S.targets c.args.t.0) = omega arith in
    absurd (leaver_there (finished_in S.targets c.args.t.0) c.args.k c.nth_finished.result (λ r. r.0) within (rw c.targets.ensures at c.nth_finished.ensures) c.in-None.is)
