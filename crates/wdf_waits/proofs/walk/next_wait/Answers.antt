-- A section that has no more line is left for the next one.
use Rattle.std.proofs.Common.{sym, ◌∙◌}
use Rattle.wdf_waits.proofs.OnWalks.{section_passes}
use Rattle.wdf_waits.proofs.walk.next_wait.Goals as goal

pub loop-line-preserved : goal.loop-line-preserved
loop-line-preserved g c =
    section_passes c.args.plan.now g.A.Agent.meaning c.args.parts.now c.loop-line.place.section c.in-Some-section_after.section c.loop-line.place.id c.in-None.ensures
    (sym c.in-Some-section_after.is ∙ c.section_after.ensures)
    ∙ c.loop-line.invariant
