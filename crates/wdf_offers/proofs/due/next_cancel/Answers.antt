-- Where it is due for no request, it isn't due on the queue.
use Rattle.std.proofs.Common.{◌<◌, ◌≤◌, length, sym, ◌∙◌, arith}
use Rattle.wdf_base.specs.declared.call.Callback.TheVariants as callback
use Rattle.wdf_base.specs.declared.rank.Rank.TheVariants as rank
use Rattle.wdf_model.specs.Plans.{declares}
use Rattle.wdf_offers.specs.Idle.{is_due_at}
use Rattle.wdf_offers.proofs.Cancels.{cancel_after, cancel_elsewhere, cancel_next, few_places, no_cancel_left, no_cancel_within, not_on}
use Rattle.wdf_offers.proofs.due.next_cancel.Goals as goal

pub returns-in-None : goal.returns-in-None
returns-in-None g c =
    let S = c.args.parts.now in
    let few = few_places (declares c.args.plan.now callback.EvtRequestCancel c.args.q.0) (length S.requests.all) c.args.end c.requires.within in
    no_cancel_left S.requests (is_due_at c.args.plan.now S rank.Cancel c.args.q.0) (not_on c.args.plan.now S c.args.q.0) c.args.from c.search.at c.args.end c.search.invariant.none few (rw c.requests.ensures at c.in-None.ensures)

pub returns-then-place-end : goal.returns-then-place-end
returns-then-place-end g c =
    let S = c.args.parts.now in
    no_cancel_within S.requests (is_due_at c.args.plan.now S rank.Cancel c.args.q.0) (not_on c.args.plan.now S c.args.q.0) c.args.from c.search.at c.args.end c.search.invariant.none c.in-Some.request.0 (rw c.requests.ensures at c.in-Some.ensures)
    (omega (arith, c.if-place-end.true))

pub returns-then-is_due_at : goal.returns-then-is_due_at
returns-then-is_due_at g c =
    let S = c.args.parts.now in
    let below : c.in-Some.request.0 < c.args.end = omega (arith, c.if-place-end.false) in
    cancel_next S.requests (is_due_at c.args.plan.now S rank.Cancel c.args.q.0) (not_on c.args.plan.now S c.args.q.0) c.args.from c.search.at c.args.end c.search.invariant.none c.in-Some.request.0 (rw c.requests.ensures at c.in-Some.ensures)
    c.search.invariant.after below (sym c.is_due_at.ensures ∙ c.if-is_due_at.true)

pub search-smaller : goal.search-smaller
search-smaller g c =
    let S = c.args.parts.now in
    let below : c.in-Some.request.0 < c.args.end = omega (arith, c.if-place-end.false) in
    let after : c.search.at ≤ c.in-Some.request.0
    = cancel_after S.requests (is_due_at c.args.plan.now S rank.Cancel c.args.q.0) (not_on c.args.plan.now S c.args.q.0) c.args.from c.search.at c.args.end c.search.invariant.none c.in-Some.request.0 (rw c.requests.ensures at c.in-Some.ensures) in
    omega arith

pub search-preserved : goal.search-preserved
search-preserved g c =
    let S = c.args.parts.now in
    let found = rw c.requests.ensures at c.in-Some.ensures in
    let after : c.search.at ≤ c.in-Some.request.0
    = cancel_after S.requests (is_due_at c.args.plan.now S rank.Cancel c.args.q.0) (not_on c.args.plan.now S c.args.q.0) c.args.from c.search.at c.args.end c.search.invariant.none c.in-Some.request.0 found in
    let from = c.search.invariant.after in
    record {
      after = omega arith;
      none = cancel_elsewhere S.requests (is_due_at c.args.plan.now S rank.Cancel c.args.q.0) (not_on c.args.plan.now S c.args.q.0) c.args.from c.search.at c.args.end c.search.invariant.none c.in-Some.request.0 found (sym c.is_due_at.ensures ∙ c.if-is_due_at.false);
    }
