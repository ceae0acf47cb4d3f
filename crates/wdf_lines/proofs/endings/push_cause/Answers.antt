-- The longest word takes its own steps.
use Rattle.wdf_lines.proofs.endings.push_cause.Goals as goal

pub returns-in-References-clause-value : goal.returns-in-References-clause-value
returns-in-References-clause-value c = rw (c.in-Some.is, c.in-References.is, ← c.from-in-References.ensures) (c.push_word_number-in-References.ensures.value)
