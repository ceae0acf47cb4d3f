-- An end that was cut short leaves a front of the page and the end.
use Rattle.std.proofs.Common.{arith}
use Rattle.std.proofs.lemmas.Result.{on_err_weaker}
use Rattle.wdf_output.proofs.Writing.{cut_longer, later_cut, page_cut}
use Rattle.wdf_output.proofs.trace.write_last.Goals as goal

pub returns-in-Err-clause-cut : goal.returns-in-Err-clause-cut
returns-in-Err-clause-cut g c = cut_longer _ c.args.page.now _ c.in-Err.ensures.cut

pub returns-in-Err-add_waits-clause-cut : goal.returns-in-Err-add_waits-clause-cut
returns-in-Err-add_waits-clause-cut g c =
    later_cut _ _ _ _ _ _ _ _ _ _ c.in-Ok.ensures.whole c.in-Ok.ensures.never_falls c.in-Err-add_waits.ensures.never_falls c.in-Err-add_waits.ensures.cut

pub returns-in-Ok-add_waits-clause-cut : goal.returns-in-Ok-add_waits-clause-cut
returns-in-Ok-add_waits-clause-cut g c =
    on_err_weaker c.write_page.result
    (λ cut. later_cut _ _ _ _ _ _ _ _ _ _ c.in-Ok.ensures.whole c.in-Ok.ensures.never_falls (omega arith)
    (page_cut _ _ _ _ _ _ _ _ _ c.in-Ok-add_waits.ensures.whole c.in-Ok-add_waits.ensures.never_falls c.write_page.ensures.never_falls cut))
    c.write_page.ensures.cut
