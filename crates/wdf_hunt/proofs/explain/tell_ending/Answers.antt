-- The story is said, or that memory was refused.
use Rattle.std.proofs.Common.{inl, inr, refl}
use Rattle.wdf_output.specs.Refusals.{no_memory_line}
use Rattle.wdf_hunt.proofs.explain.tell_ending.Goals as goal

pub returns-in-Ok-clause-told : goal.returns-in-Ok-clause-told
returns-in-Ok-clause-told g c = (c.in-Ok.text, 0, inl (c.in-Ok.ensures, refl), rw c.bytes.ensures at c.say.ensures.said)

pub returns-in-Err-clause-told : goal.returns-in-Err-clause-told
returns-in-Err-clause-told g c = (no_memory_line, 15, inr (refl, refl), rw c.from.ensures at c.tell.ensures.said)
