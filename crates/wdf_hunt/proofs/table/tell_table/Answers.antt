-- The table is said, or that memory was refused.
use Rattle.std.proofs.Common.{inl, inr, refl, arith}
use Rattle.wdf_output.specs.Refusals.{no_memory_line}
use Rattle.wdf_hunt.proofs.table.tell_table.Goals as goal

pub returns-in-Ok-clause-told : goal.returns-in-Ok-clause-told
returns-in-Ok-clause-told g c = (c.in-Ok.text, c.in-Ok.status, inl c.in-Ok.ensures.due, rw c.bytes.ensures at c.say.ensures.said)

pub returns-in-Ok-clause-not_again : goal.returns-in-Ok-clause-not_again
returns-in-Ok-clause-not_again g c = c.say.ensures.not_again (λ h. omega (arith, h, c.in-Ok.ensures.small))

pub returns-in-Err-clause-told : goal.returns-in-Err-clause-told
returns-in-Err-clause-told g c = (no_memory_line, 15, inr (refl, refl), rw c.from.ensures at c.tell.ensures.said)
