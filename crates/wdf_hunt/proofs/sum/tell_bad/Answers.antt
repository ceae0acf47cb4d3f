-- The line that is wrong is said, or that memory was refused.
use Rattle.std.proofs.Common.{◌∙◌, subst}
use Rattle.wdf_sum.specs.Sums.{IsNoSum}
use Rattle.wdf_hunt.proofs.Added.{line_told, wanting_told}
use Rattle.wdf_hunt.proofs.sum.tell_bad.Goals as goal

pub returns-in-NoMemory-clause-told : goal.returns-in-NoMemory-clause-told
returns-in-NoMemory-clause-told g c = λ input refused. wanting_told input _ _ c.tell.ensures.said

pub returns-in-AtLine-clause-told : goal.returns-in-AtLine-clause-told
returns-in-AtLine-clause-told g c = λ input refused.
    line_told input c.in-AtLine.line c.in-AtLine.why _ _ (subst (IsNoSum input) c.in-AtLine.is refused) (rw (c.bytes.ensures ∙ c.refused_line.ensures) at c.say.ensures.said)
