-- The words of a call and those of its answer are joined.
use Rattle.std.proofs.Common.{codes}
use Rattle.wdf_base.specs.Words.{call_word}
use Rattle.wdf_lines.specs.Lines.{argument_words, value_text}
use Rattle.wdf_lines.proofs.Spaced.{answered_line}
use Rattle.wdf_lines.proofs.lines.push_answered.Goals as goal

pub returns-clause-value : goal.returns-clause-value
returns-clause-value c =
    answered_line c.args.line.now c.push_call.new.line c.push_word.new.self c.push_value.new.line (call_word c.args.call.now.kind) (codes "->") (value_text c.args.plan.now c.args.answer) (argument_words c.args.plan.now c.args.call.now) c.push_call.ensures.value c.push_word.ensures.value c.push_value.ensures.value
