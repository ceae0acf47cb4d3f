-- One more is kept back, or none is further.
use Rattle.std.proofs.Common.{◌≡◌, length, arith}
use Rattle.wdf_offers.specs.Leaving.{fits_part, may_leave}
use Rattle.wdf_offers.proofs.Leavers.{part}
use Rattle.wdf_offers.proofs.Numbered.{kept_all, kept_more}
use Rattle.wdf_offers.proofs.leaving.Leaving.kept_len.Goals as goal

pub search-preserved : goal.search-preserved
search-preserved g c =
    let S = c.args.parts.now in
    let all : c.len-end.result ≡ length S.tree.nodes = rw c.tree.ensures at c.len-end.ensures in
    let next = c.in-Some.ensures in
    let up = next.after in
    let under = next.within in
    let few = c.search.invariant.few in
    let counted = c.search.invariant.counted in
    let more = kept_more (fits_part c.args.self S) (may_leave c.args.self S) (part c.args.self S) c.search.at _ c.in-Some.o next in
    record { counted = omega arith; few = omega arith; within = omega arith }

pub returns : goal.returns
returns g c =
    let S = c.args.parts.now in
    let all : c.len-end.result ≡ length S.tree.nodes = rw c.tree.ensures at c.len-end.ensures in
    let within = c.search.invariant.within in
    let counted = c.search.invariant.counted in
    let last = kept_all (fits_part c.args.self S) (may_leave c.args.self S) (part c.args.self S) c.search.at (length S.tree.nodes) within (rw all at c.in_default.ensures) in
    omega arith
