-- The row that is read is the one that is there.
use Rattle.std.proofs.Common.{arith}
use Rattle.wdf_sum.proofs.Texts.{row_found, row_there}
use Rattle.wdf_sum.proofs.line.row_in.Goals as goal

pub returns-then-parts-eq0-clause-none : goal.returns-then-parts-eq0-clause-none
returns-then-parts-eq0-clause-none c = λ row is_row same.
    let there = c.in-Some.ensures.each row.count row.seed row.events row.kind is_row.count_fits is_row.seed_fits is_row.events_fit (row_there row c.args.text.now same) in
    absurd (omega (arith, is_row.some, there.0, c.if-parts-eq0.true))

pub returns-in_ok-row-in-Some-clause-found : goal.returns-in_ok-row-in-Some-clause-found
returns-in_ok-row-in-Some-clause-found c =
    row_found c.in_ok-row-in-Some.row c.args.text.now c.in-Some.parts.count c.in-Some.parts.seed c.in-Some.parts.events c.in-Some.parts.kind.now c.in-Some.ensures.found c.in_ok-row-in-Some.ensures

pub returns-in-None-clause-none : goal.returns-in-None-clause-none
returns-in-None-clause-none c = λ row is_row same.
    c.in-None.ensures.each row.count row.seed row.events row.kind is_row.count_fits is_row.seed_fits is_row.events_fit (row_there row c.args.text.now same)
