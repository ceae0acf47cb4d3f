-- What the last line says that is there.
use Rattle.std.proofs.Common.{refl, sym, ◌∙◌, arith, ◌-◌, ◌+◌}
use Rattle.wdf_sum.proofs.Texts.{end_found, end_passes, end_there}
use Rattle.wdf_sum.proofs.line.end_of.Goals as goal

pub returns-then-is_end-clause-found : goal.returns-then-is_end-clause-found
returns-then-is_end-clause-found c =
    let found = end_found c.args.text.now c.in-Some.parts.rest.now (record { from = c.in-Some.parts.from; count = c.in-Some.parts.count; events = c.in-Some.parts.events; line = c.args.line }) c.in-Some.parts.to
    c.in-Some.ensures.found (sym c.is_end.ensures.value ∙ c.if-is_end.true) (c.is_end.ensures.fits c.if-is_end.true) in
    (found.0, found.1, refl)

pub returns-else-is_end-clause-none : goal.returns-else-is_end-clause-none
returns-else-is_end-clause-none c = λ s small same.
    let proper = small.proper in
    let some = proper.some in
    let fits = proper.fits in
    let there = c.in-Some.ensures.each s.from (s.from + s.count - 1) s.count s.events _ (omega (arith, some, fits)) (omega (arith, some, fits)) small.count_fits small.events_fit (end_there s c.args.text.now same) in
    let passes = end_passes s.from s.count c.in-Some.parts.rest.now c.in-Some.parts.to there.4 some there.1 in
    let fails = sym c.is_end.ensures.value ∙ c.if-is_end.false in
    let z : ⊥ = cc (there.0, there.2, passes, fails) in z

pub returns-in-None-clause-none : goal.returns-in-None-clause-none
returns-in-None-clause-none c = λ s small same.
    let proper = small.proper in
    let some = proper.some in
    let fits = proper.fits in
    c.in-None.ensures.each s.from (s.from + s.count - 1) s.count s.events _ (omega (arith, some, fits)) (omega (arith, some, fits)) small.count_fits small.events_fit (end_there s c.args.text.now same)
