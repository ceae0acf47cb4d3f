-- In one group, or for one of the objects.
use Rattle.std.proofs.Common.{sym, subst, arith}
use Rattle.wdf_ready.proofs.InBlocks.{FirstOrNone, each_groups, in_each, in_one, one_group, small_enough}
use Rattle.wdf_ready.proofs.across.first_in_block.Goals as goal

pub returns-in-One-clause-first : goal.returns-in-One-clause-first
returns-in-One-clause-first g c =
    subst (λ es. FirstOrNone c.args.actor c.first_in.result es) (sym (in_one c.args.plan.now g.A.Agent.meaning c.args.parts.now c.args.all.now.objects c.args.block _ c.in-One.is)) c.first_in.ensures.first

pub returns-in-One-clause-small : goal.returns-in-One-clause-small
returns-in-One-clause-small g c =
    small_enough c.first_in.result 1 _ (sym (one_group c.args.all.now.objects c.args.block _ c.in-One.is)) c.first_in.ensures.small

pub first_of_each-requires-clause-few : goal.first_of_each-requires-clause-few
first_of_each-requires-clause-few g c =
    let many = each_groups c.args.all.now.objects c.args.block _ _ _ c.in-ForEach.is c.objects_of.ensures.ids in
    let few = c.requires.few in
    omega (arith, many, few)

pub returns-in-ForEach-clause-first : goal.returns-in-ForEach-clause-first
returns-in-ForEach-clause-first g c =
    subst (λ es. FirstOrNone c.args.actor c.first_of_each.result es) (sym (in_each c.args.plan.now g.A.Agent.meaning c.args.parts.now c.args.all.now.objects c.args.block _ _ _ c.in-ForEach.is c.objects_of.ensures.ids)) c.first_of_each.ensures.first

pub returns-in-ForEach-clause-small : goal.returns-in-ForEach-clause-small
returns-in-ForEach-clause-small g c =
    small_enough c.first_of_each.result _ _ (sym (each_groups c.args.all.now.objects c.args.block _ _ _ c.in-ForEach.is c.objects_of.ensures.ids)) c.first_of_each.ensures.small
