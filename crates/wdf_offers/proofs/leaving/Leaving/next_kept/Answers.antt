-- What isn't busy isn't kept back, nor is what doesn't fit.
use Rattle.std.proofs.Common.{◌+◌, ◌<◌, length, sym, ◌∙◌, arith}
use Rattle.wdf_model.specs.declared.room.TheConstants.{OBJECTS}
use Rattle.wdf_sets.specs.Nexts.{NoneFrom}
use Rattle.wdf_offers.specs.Leaving.{fits_part, is_busy, is_kept}
use Rattle.wdf_offers.proofs.Leavers.{unbusy, unfit}
use Rattle.wdf_offers.proofs.Wider.{next_is, none_past, none_so_far, none_up_to, none_within}
use Rattle.wdf_offers.proofs.leaving.Leaving.next_kept.Goals as goal

pub returns-in-None : goal.returns-in-None
returns-in-None g c =
    let l = c.args.self in
    let S = c.args.parts.now in
    none_up_to (is_busy l S) (is_kept l S) (unbusy l S c.requires.settled) c.args.from c.search.at c.search.invariant.none c.args.end (λ x after below. c.in-None.ensures x after (omega (arith, c.requires.room)))

pub returns-then-o-end : goal.returns-then-o-end
returns-then-o-end g c =
    let l = c.args.self in
    let S = c.args.parts.now in
    none_within (is_busy l S) (is_kept l S) (unbusy l S c.requires.settled) c.args.from c.search.at c.search.invariant.none OBJECTS c.args.end c.in-Some.o.0 c.in-Some.ensures (omega (arith, c.if-o-end.true))

pub returns-then-is_kept_back : goal.returns-then-is_kept_back
returns-then-is_kept_back g c =
    let l = c.args.self in
    let S = c.args.parts.now in
    let below : c.in-Some.o.0 < c.args.end = omega (arith, c.if-o-end.false) in
    next_is (is_busy l S) (is_kept l S) (unbusy l S c.requires.settled) c.args.from c.search.at c.search.invariant.none OBJECTS c.args.end c.in-Some.o.0 c.in-Some.ensures c.search.invariant.after below (sym c.is_kept_back.ensures ∙ c.if-is_kept_back.true)

pub returns-in-None-next_fitting : goal.returns-in-None-next_fitting
returns-in-None-next_fitting g c =
    let l = c.args.self in
    let S = c.args.parts.now in
    let none : NoneFrom (is_kept l S) c.args.from (c.in-Some.o.0 + 1) =
    none_past (is_busy l S) (is_kept l S) (unbusy l S c.requires.settled) c.args.from c.search.at c.search.invariant.none OBJECTS c.args.end c.in-Some.o.0 c.in-Some.ensures (sym c.is_kept_back.ensures ∙ c.if-is_kept_back.false) in
    none_up_to (fits_part l S) (is_kept l S) (unfit l S) c.args.from (c.in-Some.o.0 + 1) none c.args.end (λ x after below. c.in-None-next_fitting.ensures x after (omega (arith, c.requires.within)))

pub search-smaller : goal.search-smaller
search-smaller g c =
    let below : c.in-Some.o.0 < c.args.end = omega (arith, c.if-o-end.false) in
    let after = c.in-Some.ensures.after in
    let further = c.in-Some-next_fitting.ensures.after in
    omega arith

pub search-preserved : goal.search-preserved
search-preserved g c =
    let l = c.args.self in
    let S = c.args.parts.now in
    let none : NoneFrom (is_kept l S) c.args.from (c.in-Some.o.0 + 1) =
    none_past (is_busy l S) (is_kept l S) (unbusy l S c.requires.settled) c.args.from c.search.at c.search.invariant.none OBJECTS c.args.end c.in-Some.o.0 c.in-Some.ensures (sym c.is_kept_back.ensures ∙ c.if-is_kept_back.false) in
    let from = c.search.invariant.after in
    let after = c.in-Some.ensures.after in
    let further = c.in-Some-next_fitting.ensures.after in
    record {
      after = omega arith;
      none = none_so_far (fits_part l S) (is_kept l S) (unfit l S) c.args.from (c.in-Some.o.0 + 1) none (length S.tree.nodes) c.args.end c.in-Some-next_fitting.fitting.0 c.in-Some-next_fitting.ensures;
    }
