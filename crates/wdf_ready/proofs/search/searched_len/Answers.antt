-- A place more is passed, and its event, if it offers one.
use Rattle.std.proofs.Common.{sym, ◌∙◌, arith}
use Rattle.wdf_offers.specs.Search.{offered_from}
use Rattle.wdf_offers.proofs.Passing.{offers, offers_none, passes, takes}
use Rattle.wdf_ready.proofs.search.searched_len.Goals as goal
use Rattle.wdf_ready.proofs.search.searched_len.Goals.{then-is_some, else-is_some}

pub search-preserved : goal.search-preserved
search-preserved g c =
    let m = g.A.Agent.meaning in
    let all = offered_from c.args.plan.now m c.args.parts.now c.args.group 0 in
    let skips = c.in-Some.ensures in
    let small = skips.small in
    let after = skips.after in
    let few = c.search.invariant.few in
    elim c.if-is_some.branch [
      | then-is_some w ↦
          let here = offers c.offered.result _ c.offered.ensures (sym c.is_some.ensures ∙ w.if-is_some.true) in
          rw w.count-is (record {
            passed = takes c.args.plan.now m c.args.parts.now c.args.group all c.search.at c.in-Some.place c.search.count here.0 c.search.invariant.passed skips here.1;
            few = omega arith;
            within = omega arith;
          })
      | else-is_some w ↦
          let none = offers_none c.offered.result _ c.offered.ensures (sym c.is_some.ensures ∙ w.if-is_some.false) in
          rw w.count-is (record {
            passed = passes c.args.plan.now m c.args.parts.now c.args.group all c.search.at c.in-Some.place c.search.count c.search.invariant.passed skips none;
            few = omega arith;
            within = omega arith;
          })
    ]
