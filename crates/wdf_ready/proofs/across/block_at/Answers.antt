-- In one group, nowhere, or for one of the objects.
use Rattle.std.proofs.Common.{ap, sym, subst, length, arith}
use Rattle.wdf_ready.proofs.InBlocks.{AtOrLeft, in_each, in_one, in_resting}
use Rattle.wdf_ready.proofs.across.block_at.Goals as goal

pub returns-in-One : goal.returns-in-One
returns-in-One g c =
    subst (λ es. AtOrLeft c.offered_at.result es c.args.k) (sym (in_one c.args.plan.now g.A.Agent.meaning c.args.parts.now c.args.all.now.objects c.args.block _ c.in-One.is)) c.offered_at.ensures

pub returns-then-rests : goal.returns-then-rests
returns-then-rests g c =
    let none = ap length (in_resting c.args.plan.now g.A.Agent.meaning c.args.parts.now c.args.all.now.objects c.args.block _ _ c.in-ForEach.is (c.rests.ensures.none c.if-rests.true)) in
    omega (arith, none)

pub returns-else-rests : goal.returns-else-rests
returns-else-rests g c =
    subst (λ es. AtOrLeft c.each_at.result es c.args.k) (sym (in_each c.args.plan.now g.A.Agent.meaning c.args.parts.now c.args.all.now.objects c.args.block _ _ _ c.in-ForEach.is c.objects_of.ensures.ids)) c.each_at.ensures
