-- The event is in this block, or the block is passed.
use Rattle.std.proofs.Common.{◌≤◌, length, sym, ◌∙◌, arith}
use Rattle.wdf_ready.proofs.SidesOfGroups.{found_here, found_later, found_nowhere}
use Rattle.wdf_ready.proofs.sides.first_of.Goals as goal

pub returns-in-Some : goal.returns-in-Some
returns-in-Some g c =
    found_here c.args.plan.now g.A.Agent.meaning c.args.parts.now c.args.all.now c.args.side c.loop-at.at _ c.in-Some.event
    c.at.ensures (sym c.first_in.ensures ∙ c.in-Some.is) c.loop-at.invariant

pub loop-at-preserved : goal.loop-at-preserved
loop-at-preserved g c =
    found_later c.args.plan.now g.A.Agent.meaning c.args.parts.now c.args.all.now c.args.side c.loop-at.at _ c.first_in.result
    c.at.ensures c.first_in.ensures c.in_default.not-Some c.loop-at.invariant

pub returns : goal.returns
returns g c =
    let past : length c.args.all.now.blocks ≤ c.loop-at.at = omega (arith, c.loop-at-test.false, c.len-at-end.ensures) in
    found_nowhere c.args.plan.now g.A.Agent.meaning c.args.parts.now c.args.all.now c.args.side c.loop-at.at past c.loop-at.invariant
