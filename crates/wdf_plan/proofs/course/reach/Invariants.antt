use Rattle.std.proofs.Common.{◌-◌, length}
use Rattle.wdf_plan.proofs.Courses.{IsOnTheWay}
use Rattle.wdf_plan.proofs.course.reach.Given as goal

abbrev pub invariant-loop-at : goal.invariant-loop-at
invariant-loop-at l = IsOnTheWay l.blocks l.fn.course l.lines l.from l.way l.at

abbrev pub decreases-loop-at : goal.decreases-loop-at
decreases-loop-at l = length l.initial.lines - l.at
