-- The event at the place that is asked for, or a place more is passed.
use Rattle.std.proofs.Common.{◌≡◌, ◌+◌, ◌-◌, Some, None, sym, ap, ◌∙◌, slice_get, subst, arith}
use Rattle.wdf_offers.specs.Search.{offered, offered_from}
use Rattle.wdf_offers.proofs.Passing.{Passed, hits, passes, takes}
use Rattle.wdf_ready.proofs.search.walked_at.Goals as goal
use Rattle.wdf_ready.proofs.search.walked_at.Goals.{in-Some-offered+else-left-eq0, in_default-offered}

pub returns-then-left-eq0 : goal.returns-then-left-eq0
returns-then-left-eq0 g c =
    let m = g.A.Agent.meaning in
    let all = offered_from c.args.plan.now m c.args.parts.now c.args.group 0 in
    let here : Some c.in-Some-offered.event ≡ offered c.args.plan.now m c.args.parts.now c.args.group c.in-Some.place = sym c.in-Some-offered.is ∙ c.offered.ensures in
    let left = c.if-left-eq0.true in
    let same : c.args.k - c.search.left ≡ c.args.k = omega arith in
    ap (slice_get all) (sym same) ∙ hits c.args.plan.now m c.args.parts.now c.args.group all c.search.at c.in-Some.place (c.args.k - c.search.left) c.in-Some-offered.event c.search.invariant.passed c.in-Some.ensures here

pub search-preserved : goal.search-preserved
search-preserved g c =
    let m = g.A.Agent.meaning in
    let all = offered_from c.args.plan.now m c.args.parts.now c.args.group 0 in
    let skips = c.in-Some.ensures in
    let small = skips.small in
    let few = c.search.invariant.few in
    elim c.match-offered.branch [
      | in-Some-offered+else-left-eq0 w ↦
          let here : Some w.in-Some-offered.event ≡ offered c.args.plan.now m c.args.parts.now c.args.group c.in-Some.place = sym w.in-Some-offered.is ∙ c.offered.ensures in
          let some = w.if-left-eq0.false in
          let count : c.args.k - c.search.left + 1 ≡ c.args.k - (c.search.left - 1) = omega arith in
          rw w.left-is (record {
            passed = subst (λ n. Passed all (offered_from c.args.plan.now m c.args.parts.now c.args.group (c.in-Some.place + 1)) n) count
                (takes c.args.plan.now m c.args.parts.now c.args.group all c.search.at c.in-Some.place (c.args.k - c.search.left) w.in-Some-offered.event c.search.invariant.passed skips here);
            few = omega arith;
            within = omega arith;
          })
      | in_default-offered w ↦
          let none : offered c.args.plan.now m c.args.parts.now c.args.group c.in-Some.place ≡ None = sym c.offered.ensures ∙ w.in_default-offered.is in
          rw w.left-is (record {
            passed = passes c.args.plan.now m c.args.parts.now c.args.group all c.search.at c.in-Some.place (c.args.k - c.search.left) c.search.invariant.passed skips none;
            few = few;
            within = omega arith;
          })
    ]
