-- Nothing may come where a search goes over no place.
use Rattle.std.proofs.Common.{◌≡◌, ◌≤◌, ◌+◌, length, ap, ◌∙◌, arith}
use Rattle.wdf_offers.specs.Search.{offered_from}
use Rattle.wdf_offers.proofs.Skips.{search_over}
use Rattle.wdf_ready.proofs.search.searched_at.Goals as goal

pub returns-then-end-eq0 : goal.returns-then-end-eq0
returns-then-end-eq0 g c =
    let over : c.search_len-end.result ≤ 0 = omega arith in
    let none : length (offered_from c.args.plan.now g.A.Agent.meaning c.args.parts.now c.args.group 0) ≡ 0 = ap length (search_over c.args.plan.now g.A.Agent.meaning c.args.parts.now c.args.group 0 c.search_len-end.result c.search_len-end.ensures.value over) in
    ap (λ n. n + c.args.k) none ∙ (let zero_is : 0 + c.args.k ≡ c.args.k = omega arith in zero_is)
