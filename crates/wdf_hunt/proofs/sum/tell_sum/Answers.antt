-- The sum is told, or why there is none.
use Rattle.wdf_hunt.proofs.sum.tell_sum.Goals as goal

pub returns-in-Ok-clause-told : goal.returns-in-Ok-clause-told
returns-in-Ok-clause-told g c = c.tell_table.ensures.told _ c.in-Ok.ensures.sum

pub returns-in-Err-clause-told : goal.returns-in-Err-clause-told
returns-in-Err-clause-told g c = c.tell_bad.ensures.told _ c.in-Err.ensures.none
