-- The waits for one lock more are counted, if it is free.
use Rattle.std.proofs.Common.{◌≡◌, ◌∙◌, arith}
use Rattle.wdf_offers.proofs.ComingBack.{freed_end, freed_next, freed_of, none_first}
use Rattle.wdf_offers.proofs.parked.freed_len.Goals as goal

pub search-init : goal.search-init
search-init g c = record { counted = none_first c.args.parts.now c.args.parts.now.cpus.parked; low = omega arith; within = omega arith }

pub search-preserved : goal.search-preserved
search-preserved g c =
    let S = c.args.parts.now in
    let next = rw c.cpus.ensures at c.in-Some.ensures in
    let after = next.after in
    let within = next.within in
    let low = c.search.invariant.low in
    let more = freed_next S c.search.at c.in-Some.o.0 S.cpus.parked low after next.before in
    let one : c.freed_by.result ≡ freed_of S c.in-Some.o.0 S.cpus.parked = c.freed_by.ensures in
    let counted = c.search.invariant.counted in
    record { counted = omega arith; low = omega arith; within = omega arith }

pub returns : goal.returns
returns g c =
    let none = rw c.cpus.ensures at c.in_default.ensures in
    c.search.invariant.counted ∙ freed_end c.args.parts.now c.search.at c.args.parts.now.cpus.parked none
