-- What is left comes to the whole.
use Rattle.std.proofs.Common.{◌≡◌}
use Rattle.wdf_laws.specs.Family as family
use Rattle.check_past.specs.Past.{before}
use Rattle.check_trace.proofs.laws.cleaned_above.Given as goal

abbrev pub invariant-loop-left : goal.invariant-loop-left
invariant-loop-left l = family.cleaned_above l.past.plan l.past.all (before l.past) l.left l.at ≡ family.cleaned_above l.past.plan l.past.all (before l.past) l.fn.most l.fn.o

abbrev pub decreases-loop-left : goal.decreases-loop-left
decreases-loop-left l = l.left
