-- The tables are a sum, or there is none.
use Rattle.std.proofs.Common.{sym, ◌∙◌, refl}
use Rattle.wdf_sum.proofs.Summing.{closed_by, sum_apart, sum_closed, sum_fits, sum_some, sum_stops}
use Rattle.wdf_sum.proofs.sum.closed.Goals as goal

pub returns-then-is_open-clause-none : goal.returns-then-is_open-clause-none
returns-then-is_open-clause-none c = λ input whole. sum_stops input c.args.number c.args.tables whole (sym c.is_open.ensures ∙ c.if-is_open.true)

pub returns-in-Ok-clause-sum : goal.returns-in-Ok-clause-sum
returns-in-Ok-clause-sum c = λ input whole. sum_closed input c.args.tables c.args.number _ whole (closed_by c.args.tables (sym c.is_open.ensures ∙ c.if-is_open.false)) c.in-Ok.ensures.joined refl refl refl

pub returns-in-Ok-clause-some : goal.returns-in-Ok-clause-some
returns-in-Ok-clause-some c = λ input whole. sum_some input c.args.tables c.args.number whole (closed_by c.args.tables (sym c.is_open.ensures ∙ c.if-is_open.false))

pub returns-in-Ok-clause-fits : goal.returns-in-Ok-clause-fits
returns-in-Ok-clause-fits c = λ input whole.
    sum_fits input c.args.tables c.args.number c.in-Ok.from whole (closed_by c.args.tables (sym c.is_open.ensures ∙ c.if-is_open.false)) c.in-Ok.ensures.joined

pub returns-in-Err-clause-none : goal.returns-in-Err-clause-none
returns-in-Err-clause-none c = λ input whole. sum_apart input c.args.number c.args.tables c.in-Err.bad whole c.in-Err.ensures.apart
