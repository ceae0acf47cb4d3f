-- Starts of one rank on two empty processors.
use Rattle.wdf_ready.proofs.EmptyCpus.{alike_starts}
use Rattle.wdf_ready.proofs.alike.starts_alike.Goals as goal

pub returns-then-share_rank : goal.returns-then-share_rank
returns-then-share_rank g c = λ yes.
    let same = c.share_rank.ensures.same c.if-share_rank.true in
    let shared = c.share_rank.ensures.shared c.if-share_rank.true in
    rw (c.in-Starts-Starts.is-0, c.in-Starts-Starts.is-1, ← same) (alike_starts c.args.plan.now g.A.Agent.meaning c.args.parts.now _ _ (c.are_alike.ensures yes) _ shared)
