-- An end that was cut short leaves a front of the trace.
use Rattle.std.proofs.Common.{[], inr, refl}
use Rattle.wdf_output.proofs.Writing.{later_cut}
use Rattle.wdf_output.proofs.trace.write_run.Goals as goal

pub returns-in-Err-write_last-clause-said : goal.returns-in-Err-write_last-clause-said
returns-in-Err-write_last-clause-said g c =
    let added = rw c.new-page.ensures at c.in-Ok.ensures.whole in
    inr (refl, later_cut _ _ _ _ _ _ [] _ _ _ added c.in-Ok.ensures.never_falls c.in-Err-write_last.ensures.never_falls c.in-Err-write_last.ensures.cut)
