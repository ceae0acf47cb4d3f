-- The place among those that fit is that among those that may leave.
use Rattle.std.proofs.Common.{◌≡◌, ◌<◌, ◌≤◌, length, ◌∙◌, arith}
use Rattle.wdf_offers.specs.Leaving.{fits_part, may_leave}
use Rattle.wdf_offers.proofs.Leavers.{part}
use Rattle.wdf_offers.proofs.Numbered.{below, below_few, below_next, kept_more, numbered_before, numbered_last}
use Rattle.wdf_offers.proofs.leaving.Leaving.at.Goals as goal

pub returns-then-place-fitting_before : goal.returns-then-place-fitting_before
returns-then-place-fitting_before g c =
    let S = c.args.parts.now in
    let all : c.len-end.result ≡ length S.tree.nodes = rw c.tree.ensures at c.len-end.ensures in
    let high : c.search.place < below (fits_part c.args.self S) c.in-Some.o = omega (arith, c.if-place-fitting_before.true, c.fitting_before.ensures) in
    c.fitting_at.ensures
    ∙ numbered_before (fits_part c.args.self S) (may_leave c.args.self S) (part c.args.self S) c.search.at (length S.tree.nodes) c.args.k c.search.place c.search.invariant.counted c.search.invariant.low c.len-end.result c.in-Some.o
    (omega arith) c.in-Some.ensures high

pub overflow_add-place : goal.overflow_add-place
overflow_add-place g c =
    let S = c.args.parts.now in
    let k_is : c.args.k < below (may_leave c.args.self S) (length S.tree.nodes) = c.requires.within in
    let small = below_few (may_leave c.args.self S) (length S.tree.nodes) in
    let few = c.search.invariant.few in
    let within = c.search.invariant.within in
    let room = c.requires.room in
    omega arith

pub search-preserved : goal.search-preserved
search-preserved g c =
    let S = c.args.parts.now in
    let all : c.len-end.result ≡ length S.tree.nodes = rw c.tree.ensures at c.len-end.ensures in
    let next = c.in-Some.ensures in
    let up = next.after in
    let under = next.within in
    let few = c.search.invariant.few in
    let counted = c.search.invariant.counted in
    let before : below (fits_part c.args.self S) c.in-Some.o ≤ c.search.place = omega (arith, c.if-place-fitting_before.false, c.fitting_before.ensures) in
    let more = kept_more (fits_part c.args.self S) (may_leave c.args.self S) (part c.args.self S) c.search.at _ c.in-Some.o next in
    let one_more = below_next (fits_part c.args.self S) c.in-Some.o in
    record { counted = omega arith; low = omega arith; few = omega arith; within = omega arith }

pub returns : goal.returns
returns g c =
    let S = c.args.parts.now in
    let all : c.len-end.result ≡ length S.tree.nodes = rw c.tree.ensures at c.len-end.ensures in
    c.fitting_at-2.ensures
    ∙ numbered_last (fits_part c.args.self S) (may_leave c.args.self S) (part c.args.self S) c.search.at (length S.tree.nodes) c.args.k c.search.place c.search.invariant.counted c.search.invariant.low
    c.search.invariant.within (rw all at c.in_default.ensures)
