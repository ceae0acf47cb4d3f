-- One group, nothing, or what each object has.
use Rattle.std.proofs.Common.{ap, sym, ◌∙◌, length, arith}
use Rattle.wdf_ready.proofs.InBlocks.{each_groups, in_each, in_one, in_resting, one_group}
use Rattle.wdf_ready.proofs.across.block_len.Goals as goal

pub returns-in-One-clause-length : goal.returns-in-One-clause-length
returns-in-One-clause-length g c =
    c.offered_len.ensures.length ∙ sym (ap length (in_one c.args.plan.now g.A.Agent.meaning c.args.parts.now c.args.all.now.objects c.args.block _ c.in-One.is))

pub returns-in-One-clause-small : goal.returns-in-One-clause-small
returns-in-One-clause-small g c =
    let one = one_group c.args.all.now.objects c.args.block _ c.in-One.is in
    let small = c.offered_len.ensures.small in
    omega (arith, one, small)

pub returns-then-rests-clause-length : goal.returns-then-rests-clause-length
returns-then-rests-clause-length g c =
    sym (ap length (in_resting c.args.plan.now g.A.Agent.meaning c.args.parts.now c.args.all.now.objects c.args.block _ _ c.in-ForEach.is (c.rests.ensures.none c.if-rests.true)))

pub each_len-requires-clause-few : goal.each_len-requires-clause-few
each_len-requires-clause-few g c =
    let many = each_groups c.args.all.now.objects c.args.block _ _ _ c.in-ForEach.is c.objects_of.ensures.ids in
    let few = c.requires.few in
    omega (arith, many, few)

pub returns-else-rests-clause-length : goal.returns-else-rests-clause-length
returns-else-rests-clause-length g c =
    c.each_len.ensures.length ∙ sym (ap length (in_each c.args.plan.now g.A.Agent.meaning c.args.parts.now c.args.all.now.objects c.args.block _ _ _ c.in-ForEach.is c.objects_of.ensures.ids))

pub returns-else-rests-clause-small : goal.returns-else-rests-clause-small
returns-else-rests-clause-small g c =
    let many = each_groups c.args.all.now.objects c.args.block _ _ _ c.in-ForEach.is c.objects_of.ensures.ids in
    let small = c.each_len.ensures.small in
    omega (arith, many, small)
