-- The next one that is counted, and for which the callback is due on the queue or isn't.
use Rattle.std.proofs.Common.{◌≡◌, ◌+◌, ◌<◌, ℕ, suc, Bool, ◌∷◌, find, length, slice_get, Some, None, option_map, sym, ap, ◌∙◌, arith}
use Rattle.std.specs.Prelude.{nat_le}
use Rattle.wdf_base.specs.declared.ids.ObjectId.{ObjectId}
use Rattle.wdf_offers.specs.ForRequests.{is_due_for, whole}
use Rattle.wdf_offers.proofs.HerdWalk.{left_from, next_after, next_due, next_other, one_less, walked, walked_past}
use Rattle.wdf_offers.proofs.for_requests.Herd.walk.Goals as goal
use Rattle.wdf_offers.proofs.for_requests.Herd.walk.Goals.{then-is_due_for+else-left-eq0, else-is_due_for}

pub returns-in-None : goal.returns-in-None
returns-in-None g c =
    let none : None ≡ find (nat_le c.walk.at) (whole c.args.self c.args.parts.now) = sym (ap (option_map (λ (r : ObjectId). r.0)) c.in-None.is) ∙ c.whole_next.ensures in
    sym (ap (λ xs. slice_get xs c.walk.left) (walked c.args.plan.now c.args.parts.now c.args.self c.args.q.0 c.requires.exact c.walk.at c.walk.invariant.within none)) ∙ c.walk.invariant.at

pub returns-then-r-end : goal.returns-then-r-end
returns-then-r-end g c =
    let S = c.args.parts.now in
    let all : c.len-end.result ≡ length S.requests.all = rw c.requests.ensures at c.len-end.ensures in
    let next : Some c.in-Some.r.0 ≡ find (nat_le c.walk.at) (whole c.args.self S) = sym (ap (option_map (λ (r : ObjectId). r.0)) c.in-Some.is) ∙ c.whole_next.ensures in
    sym (ap (λ xs. slice_get xs c.walk.left) (walked_past c.args.plan.now S c.args.self c.args.q.0 c.requires.exact c.walk.at c.walk.invariant.within c.in-Some.r.0 next (omega (arith, c.if-r-end.true)))) ∙ c.walk.invariant.at

pub returns-then-left-eq0 : goal.returns-then-left-eq0
returns-then-left-eq0 g c =
    let S = c.args.parts.now in
    let r = c.in-Some.r.0 in
    let all : c.len-end.result ≡ length S.requests.all = rw c.requests.ensures at c.len-end.ensures in
    let within : r < length S.requests.all = omega (arith, c.if-r-end.false) in
    let next : Some r ≡ find (nat_le c.walk.at) (whole c.args.self S) = sym (ap (option_map (λ (x : ObjectId). x.0)) c.in-Some.is) ∙ c.whole_next.ensures in
    let zero : c.walk.left ≡ 0 = omega (arith, c.if-left-eq0.true) in
    let here = next_due c.args.plan.now S c.args.self c.args.q.0 c.requires.exact c.walk.at c.walk.invariant.within r next within (sym c.is_due_for.ensures ∙ c.if-is_due_for.true) in
    sym (ap (λ xs. slice_get xs c.walk.left) here ∙ ap (slice_get (r ∷ left_from (is_due_for c.args.plan.now S c.args.self c.args.q.0) (length S.requests.all) (r + 1))) zero) ∙ c.walk.invariant.at

pub walk-smaller : goal.walk-smaller
walk-smaller g c =
    let S = c.args.parts.now in
    let all : c.len-end.result ≡ length S.requests.all = rw c.requests.ensures at c.len-end.ensures in
    let next : Some c.in-Some.r.0 ≡ find (nat_le c.walk.at) (whole c.args.self S) = sym (ap (option_map (λ (x : ObjectId). x.0)) c.in-Some.is) ∙ c.whole_next.ensures in
    let after = next_after c.args.plan.now S c.args.self c.args.q.0 c.requires.exact c.walk.at c.walk.invariant.within c.in-Some.r.0 next in
    omega (arith, c.if-r-end.false)

pub walk-preserved : goal.walk-preserved
walk-preserved g c =
    let S = c.args.parts.now in
    let r = c.in-Some.r.0 in
    let due : ℕ → Bool = is_due_for c.args.plan.now S c.args.self c.args.q.0 in
    let all : c.len-end.result ≡ length S.requests.all = rw c.requests.ensures at c.len-end.ensures in
    let within : r < length S.requests.all = omega (arith, c.if-r-end.false) in
    let next : Some r ≡ find (nat_le c.walk.at) (whole c.args.self S) = sym (ap (option_map (λ (x : ObjectId). x.0)) c.in-Some.is) ∙ c.whole_next.ensures in
    record {
      at = elim c.if-is_due_for.branch [
        | then-is_due_for+else-left-eq0 w ↦
            let here = next_due c.args.plan.now S c.args.self c.args.q.0 c.requires.exact c.walk.at c.walk.invariant.within r next within (sym c.is_due_for.ensures ∙ w.if-is_due_for.true) in
            let less : c.walk.left ≡ suc c.if-is_due_for.left = omega (arith, w.left-is, w.if-left-eq0.false) in
            sym (ap (λ xs. slice_get xs c.walk.left) here ∙ one_less r (left_from due (length S.requests.all) (r + 1)) c.walk.left c.if-is_due_for.left less) ∙ c.walk.invariant.at
        | else-is_due_for w ↦
            let here = next_other c.args.plan.now S c.args.self c.args.q.0 c.requires.exact c.walk.at c.walk.invariant.within r next within (sym c.is_due_for.ensures ∙ w.if-is_due_for.false) in
            ap (slice_get (left_from due (length S.requests.all) (r + 1))) w.left-is ∙ sym (ap (λ xs. slice_get xs c.walk.left) here) ∙ c.walk.invariant.at
      ];
      within = omega arith;
    }
