-- Starts of one rank on two empty processors.
use Rattle.wdf_ready.proofs.EmptyCpus.{alike_blocks, alike_ones}
use Rattle.wdf_ready.proofs.alike.offer_alike.Goals as goal

pub returns-in-One-One : goal.returns-in-One-One
returns-in-One-One g c = λ yes.
    rw (c.in-One-One.is-0, c.in-One-One.is-1) (alike_ones c.args.plan.now g.A.Agent.meaning c.args.parts.now c.args.all.now.objects c.in-One-One.group c.in-One-One.same (c.starts_alike.ensures yes))

pub returns-then-same_rank : goal.returns-then-same_rank
returns-then-same_rank g c = λ yes.
    let same = c.same_rank.ensures c.if-same_rank.true in
    rw (c.in-ForEach-ForEach.is-0, c.in-ForEach-ForEach.is-1, ← same) (alike_blocks c.args.plan.now g.A.Agent.meaning c.args.parts.now _ _ (c.are_alike.ensures yes) c.args.all.now.objects _)
