use Rattle.std.proofs.Common.{◌-◌, length}
use Rattle.wdf_plan.proofs.Detours.{IsTurning}
use Rattle.wdf_plan.proofs.course.turn.Given as goal

abbrev pub invariant-loop-at : goal.invariant-loop-at
invariant-loop-at l = IsTurning l.fn.number l.from l.depth l.before l.at

abbrev pub decreases-loop-at : goal.decreases-loop-at
decreases-loop-at l = length l.initial.lines - l.at
