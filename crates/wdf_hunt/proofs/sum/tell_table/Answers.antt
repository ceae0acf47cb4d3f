-- The table is said, or that memory was refused.
use Rattle.std.proofs.Common.{inl, arith}
use Rattle.wdf_hunt.proofs.Added.{wanting_told}
use Rattle.wdf_hunt.proofs.sum.tell_table.Goals as goal

pub returns-in-Ok-clause-told : goal.returns-in-Ok-clause-told
returns-in-Ok-clause-told g c = λ input is. (c.in-Ok.text, c.in-Ok.status, inl (inl (c.in-Ok.ensures.due input is)), rw c.bytes.ensures at c.say.ensures.said)

pub returns-in-Ok-clause-not_again : goal.returns-in-Ok-clause-not_again
returns-in-Ok-clause-not_again g c = c.say.ensures.not_again (λ h. omega (arith, h, c.in-Ok.ensures.small))

pub returns-in-Err-clause-told : goal.returns-in-Err-clause-told
returns-in-Err-clause-told g c = λ input is. wanting_told input _ _ (rw c.from.ensures at c.tell.ensures.said)
