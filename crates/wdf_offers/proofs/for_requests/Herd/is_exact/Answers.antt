-- What is counted is exact.
use Rattle.std.proofs.Common.{◌≡◌, false, sym, subst, ◌∙◌}
use Rattle.std.specs.List.{list_any}
use Rattle.wdf_model.proofs.Tests.{not_true}
use Rattle.wdf_request.specs.Keys.{is_due_sent}
use Rattle.wdf_offers.specs.ForRequests.{IsExact}
use Rattle.wdf_offers.proofs.Herds.{exact_cancels, exact_resumes, exact_returns, exact_stops}
use Rattle.wdf_offers.proofs.for_requests.Herd.is_exact.Goals as goal

pub returns-in-Cancel : goal.returns-in-Cancel
returns-in-Cancel g c =
    let S = c.args.parts.now in
    λ none.
    let not_one : list_any is_due_sent S.requests.all ≡ false = sym (rw c.requests.ensures at c.some_due_sent.ensures) ∙ not_true c.some_due_sent.result none in
    subst (λ h. IsExact c.args.plan.now S h c.args.q.0) (sym c.in-Cancel.is) (exact_cancels c.args.plan.now S c.args.q.0 not_one)

pub returns-in-Return : goal.returns-in-Return
returns-in-Return g c = λ yes. subst (λ h. IsExact c.args.plan.now c.args.parts.now h c.args.q.0) (sym c.in-Return.is) (exact_returns c.args.plan.now c.args.parts.now c.args.q.0)

pub returns-in-Stop : goal.returns-in-Stop
returns-in-Stop g c = λ yes. subst (λ h. IsExact c.args.plan.now c.args.parts.now h c.args.q.0) (sym c.in-Stop.is) (exact_stops c.args.plan.now c.args.parts.now c.args.q.0 c.requires.settled.holdings)

pub returns-in-Resume : goal.returns-in-Resume
returns-in-Resume g c = λ managed.
    subst (λ h. IsExact c.args.plan.now c.args.parts.now h c.args.q.0) (sym c.in-Resume.is)
    (exact_resumes c.args.plan.now c.args.parts.now c.args.q.0 c.requires.settled.holdings (sym c.is_managed.ensures ∙ managed))
