-- Where as many are counted for the queue, they are all.
use Rattle.std.proofs.Common.{◌≡◌, length, slice_get, ap, ◌∙◌, arith}
use Rattle.wdf_offers.specs.ForRequests.{counted, whole}
use Rattle.wdf_offers.proofs.Herds.{counted_are, whole_is}
use Rattle.wdf_offers.proofs.for_requests.Herd.at.Goals as goal

pub returns-then-whole_len-counted_len : goal.returns-then-whole_len-counted_len
returns-then-whole_len-counted_len g c =
    let S = c.args.parts.now in
    let many : length (whole c.args.self S) ≡ length (counted c.args.self S c.args.q.0) = omega (arith, c.if-whole_len-counted_len.true, c.whole_len.ensures, c.counted_len.ensures) in
    c.whole_at.ensures
    ∙ ap (λ xs. slice_get xs c.args.k) (whole_is c.args.self S c.args.q.0 many ∙ counted_are c.args.plan.now S c.args.q.0 c.args.self c.requires.exact c.requires.can_be)
