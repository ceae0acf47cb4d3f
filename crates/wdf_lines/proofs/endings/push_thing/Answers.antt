-- The longest word takes its own steps.
use Rattle.std.proofs.Common.{append_assoc, append-nil}
use Rattle.wdf_lines.proofs.endings.push_thing.Goals as goal

pub returns-in-Returning-clause-value : goal.returns-in-Returning-clause-value
returns-in-Returning-clause-value c = rw (c.in-Returning.is, c.push_object-in-Returning.ensures.value, c.push_object_word-in-Returning.ensures.value) (simp (append_assoc, append-nil))
