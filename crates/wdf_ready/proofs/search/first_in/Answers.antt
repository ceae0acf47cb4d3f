-- The event is the actor's; or a place more is passed, whose event is another's, or which offers none.
use Rattle.std.proofs.Common.{◌≡◌, Some, None, sym, ap, ◌∙◌, arith}
use Rattle.wdf_ready.specs.Actors.{is_by}
use Rattle.wdf_offers.specs.Search.{offered, offered_from}
use Rattle.wdf_offers.proofs.Passing.{hits, next_fails, passes, takes}
use Rattle.wdf_ready.proofs.search.first_in.Goals as goal
use Rattle.wdf_ready.proofs.search.first_in.Goals.{in-Some-offered+else-is_by, in_default-offered}

pub returns-then-is_by-clause-first : goal.returns-then-is_by-clause-first
returns-then-is_by-clause-first g c =
    let m = g.A.Agent.meaning in
    let all = offered_from c.args.plan.now m c.args.parts.now c.args.group 0 in
    let here : Some c.in-Some-offered.event ≡ offered c.args.plan.now m c.args.parts.now c.args.group c.in-Some.place = sym c.in-Some-offered.is ∙ c.offered.ensures in
    record {
      item = c.in-Some-offered.event;
      at = hits c.args.plan.now m c.args.parts.now c.args.group all c.search.at c.in-Some.place c.search.count c.in-Some-offered.event c.search.invariant.passed c.in-Some.ensures here;
      passes = sym c.is_by.ensures ∙ c.if-is_by.true;
      before = c.search.invariant.none;
    }

pub search-preserved : goal.search-preserved
search-preserved g c =
    let m = g.A.Agent.meaning in
    let all = offered_from c.args.plan.now m c.args.parts.now c.args.group 0 in
    let skips = c.in-Some.ensures in
    let small = skips.small in
    let after = skips.after in
    let few = c.search.invariant.few in
    elim c.match-offered.branch [
      | in-Some-offered+else-is_by w ↦
          let here : Some w.in-Some-offered.event ≡ offered c.args.plan.now m c.args.parts.now c.args.group c.in-Some.place = sym w.in-Some-offered.is ∙ c.offered.ensures in
          let at = hits c.args.plan.now m c.args.parts.now c.args.group all c.search.at c.in-Some.place c.search.count w.in-Some-offered.event c.search.invariant.passed skips here in
          rw w.count-is (record {
            passed = takes c.args.plan.now m c.args.parts.now c.args.group all c.search.at c.in-Some.place c.search.count w.in-Some-offered.event c.search.invariant.passed skips here;
            none = next_fails (is_by c.args.actor) all c.search.count c.search.invariant.none
                (λ y h. let same : w.in-Some-offered.event ≡ y = cc (sym at ∙ h) in ap (is_by c.args.actor) (sym same) ∙ sym w.is_by.ensures ∙ w.if-is_by.false);
            few = omega arith;
            within = omega arith;
          })
      | in_default-offered w ↦
          let none : offered c.args.plan.now m c.args.parts.now c.args.group c.in-Some.place ≡ None = sym c.offered.ensures ∙ w.in_default-offered.is in
          rw w.count-is (record {
            passed = passes c.args.plan.now m c.args.parts.now c.args.group all c.search.at c.in-Some.place c.search.count c.search.invariant.passed skips none;
            none = c.search.invariant.none;
            few = omega arith;
            within = omega arith;
          })
    ]
