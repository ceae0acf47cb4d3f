-- Digits that are those of no number, or of another one.
use Rattle.std.proofs.Common.{sym, ◌∙◌}
use Rattle.wdf_sum.proofs.Numbering.{none_written, other_written}
use Rattle.wdf_sum.proofs.digits.number_of.Goals as goal

pub returns-else-is_decimal-clause-none : goal.returns-else-is_decimal-clause-none
returns-else-is_decimal-clause-none c = λ number few is.
    other_written c.args.digits.now c.in-Some.number number (sym c.in-Some.is ∙ c.small_number.ensures) (sym c.is_decimal.ensures ∙ c.if-is_decimal.false) few is

pub returns-in-None-clause-none : goal.returns-in-None-clause-none
returns-in-None-clause-none c = λ number few is. none_written c.args.digits.now number (sym c.in-None.is ∙ c.small_number.ensures) few is
