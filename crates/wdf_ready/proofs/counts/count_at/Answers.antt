-- A count that is known, that of the same block on another processor, or one made anew.
use Rattle.std.proofs.Common.{sym, ◌∙◌, arith}
use Rattle.wdf_ready.proofs.Counting.{alike_at, anew_at, known_at}
use Rattle.wdf_ready.proofs.InBlocks.{block_within}
use Rattle.wdf_ready.proofs.counts.count_at.Goals as goal

pub returns-then-not-has_block : goal.returns-then-not-has_block
returns-then-not-has_block g c = λ b is.
    known_at c.args.plan.now g.A.Agent.meaning c.args.parts.now c.args.all.now c.args.stale c.args.each.now c.args.at _ b c.at-block.ensures is c.requires.counted (sym c.has_block.ensures ∙ c.if-not-has_block.true)

pub returns-then-offer_alike : goal.returns-then-offer_alike
returns-then-offer_alike g c = λ b is.
    alike_at c.args.plan.now g.A.Agent.meaning c.args.parts.now c.args.all.now c.args.stale c.args.each.now c.args.at _ b c.at-block.ensures is c.requires.counted c.args.step _ c.at.ensures c.requires.step c.if-at-step.true
    (c.offer_alike.ensures c.if-offer_alike.true)

pub block_len-requires-clause-few : goal.block_len-requires-clause-few
block_len-requires-clause-few g c =
    let within = block_within c.args.all.now.objects c.args.all.now.blocks c.args.at _ c.at-block.ensures in
    let few = c.requires.few in
    omega (arith, within, few)

pub returns : goal.returns
returns g c = λ b is.
    anew_at c.args.plan.now g.A.Agent.meaning c.args.parts.now c.args.all.now c.args.stale c.args.each.now c.args.at _ b c.at-block.ensures is c.requires.counted c.block_len.result c.block_len.ensures.length c.block_len.ensures.small
