-- The events of a block are of one side.
use Rattle.std.proofs.Common.{sym, ◌∙◌}
use Rattle.wdf_ready.proofs.SidesOfGroups.{other_side, own_side}
use Rattle.wdf_ready.proofs.sides.first_in.Goals as goal

pub returns-then-same_side : goal.returns-then-same_side
returns-then-same_side g c =
    rw c.ok.ensures.value
    (own_side c.args.plan.now g.A.Agent.meaning c.args.parts.now c.args.all.now.objects c.args.block c.args.side c.block_at.result (sym (rw c.of_block.ensures at c.same_side.ensures) ∙ c.if-same_side.true) c.block_at.ensures)

pub returns-else-same_side : goal.returns-else-same_side
returns-else-same_side g c =
    other_side c.args.plan.now g.A.Agent.meaning c.args.parts.now c.args.all.now.objects c.args.block c.args.side (sym (rw c.of_block.ensures at c.same_side.ensures) ∙ c.if-same_side.false)
