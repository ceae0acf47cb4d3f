-- Where the target doesn't say that a completion routine is due, it isn't.
use Rattle.std.proofs.Common.{◌<◌, sym, ◌∙◌, arith}
use Rattle.wdf_base.specs.declared.rank.Rank.TheVariants as rank
use Rattle.wdf_model.specs.parts.Targets.{pending}
use Rattle.wdf_sets.specs.Nexts.{IsNext}
use Rattle.wdf_target.specs.Finished.{finished_at}
use Rattle.wdf_offers.specs.Idle.{is_due_at}
use Rattle.wdf_offers.proofs.AtRest.{undue_at}
use Rattle.wdf_offers.proofs.Wider.{next_is, none_past, none_up_to, none_within}
use Rattle.wdf_offers.proofs.due.next_routine.Goals as goal

pub returns-in-None : goal.returns-in-None
returns-in-None g c =
    let S = c.args.parts.now in
    let t = c.args.t.0 in
    none_up_to (finished_at S.targets t) (is_due_at c.args.plan.now S rank.Completion t) (undue_at c.args.plan.now S t) c.args.from c.search.at c.search.invariant.none c.args.end
    (λ k after below. (rw c.targets.ensures at c.in-None.ensures) k after (omega (arith, c.requires.within)))

pub returns-then-place-end : goal.returns-then-place-end
returns-then-place-end g c =
    let S = c.args.parts.now in
    let t = c.args.t.0 in
    none_within (finished_at S.targets t) (is_due_at c.args.plan.now S rank.Completion t) (undue_at c.args.plan.now S t) c.args.from c.search.at c.search.invariant.none (pending S.targets t) c.args.end c.in-Some.place
    (rw c.targets.ensures at c.in-Some.ensures) (omega (arith, c.if-place-end.true))

pub returns-then-is_due_at : goal.returns-then-is_due_at
returns-then-is_due_at g c =
    let S = c.args.parts.now in
    let t = c.args.t.0 in
    let below : c.in-Some.place < c.args.end = omega (arith, c.if-place-end.false) in
    next_is (finished_at S.targets t) (is_due_at c.args.plan.now S rank.Completion t) (undue_at c.args.plan.now S t) c.args.from c.search.at c.search.invariant.none (pending S.targets t) c.args.end c.in-Some.place
    (rw c.targets.ensures at c.in-Some.ensures) c.search.invariant.after below (sym c.is_due_at.ensures ∙ c.if-is_due_at.true)

pub search-smaller : goal.search-smaller
search-smaller g c =
    let S = c.args.parts.now in
    let found : IsNext (finished_at S.targets c.args.t.0) c.search.at (pending S.targets c.args.t.0) c.in-Some.place = rw c.targets.ensures at c.in-Some.ensures in
    let after = found.after in
    let below : c.in-Some.place < c.args.end = omega (arith, c.if-place-end.false) in
    omega arith

pub search-preserved : goal.search-preserved
search-preserved g c =
    let S = c.args.parts.now in
    let t = c.args.t.0 in
    let found : IsNext (finished_at S.targets t) c.search.at (pending S.targets t) c.in-Some.place = rw c.targets.ensures at c.in-Some.ensures in
    let after = found.after in
    let from = c.search.invariant.after in
    record {
      after = omega arith;
      none = none_past (finished_at S.targets t) (is_due_at c.args.plan.now S rank.Completion t) (undue_at c.args.plan.now S t) c.args.from c.search.at c.search.invariant.none (pending S.targets t) c.args.end c.in-Some.place
          found (sym c.is_due_at.ensures ∙ c.if-is_due_at.false);
    }
