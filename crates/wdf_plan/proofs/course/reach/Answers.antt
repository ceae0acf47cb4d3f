use Rattle.std.proofs.Common.{sym, ◌∙◌}
use Rattle.wdf_plan.proofs.Courses.{way_stops, way_ends, way_goes_on}
use Rattle.wdf_plan.proofs.Detours.{shortcut_leads}
use Rattle.wdf_plan.proofs.course.reach.Goals as goal

pub returns-in-Some : goal.returns-in-Some
returns-in-Some c =
    shortcut_leads _ _ _ _ _ _ c.requires.kept c.in-Some.ensures ∙ sym c.loop-at.invariant.answer

pub returns-in-None : goal.returns-in-None
returns-in-None c =
    way_stops _ _ _ _ _ _ c.index-lines-at.result c.loop-at.invariant c.loop-at-test.true c.index-lines-at.is c.in-None.ensures.value

pub loop-at-preserved : goal.loop-at-preserved
loop-at-preserved c =
    way_goes_on _ _ _ _ _ _ _ c.index-lines-at.result c.loop-at.invariant c.loop-at-test.true c.index-lines-at.is c.in-Some-passed.ensures.value c.in-Some-passed.ensures.near

pub returns : goal.returns
returns c = way_ends _ _ _ _ _ _ c.loop-at.invariant c.loop-at-test.false
