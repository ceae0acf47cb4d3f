-- The number that is read is the one that is there.
use Rattle.std.proofs.Common.{rules}
use Rattle.wdf_sum.proofs.Numbering.{numbered, same_reading}
use Rattle.wdf_sum.proofs.digits.number_before.Goals as goal

pub returns-in_err-number-clause-each : goal.returns-in_err-number-clause-each
returns-in_err-number-clause-each c = λ number rest few is.
    rw c.from_residual.ensures (c.in_err-number.ensures.none number few (numbered c.args.text.now c.args.word.now rest number c.digits_len-len.result c.digits_len-len.ensures.value c.requires few is).digits)

pub returns-in_err-rest-clause-each : goal.returns-in_err-rest-clause-each
returns-in_err-rest-clause-each c = λ number rest few is.
    rw c.from_residual-in_err-rest.ensures ((rw c.from_place.ensures at c.in_err-rest.ensures) rest (numbered c.args.text.now c.args.word.now rest number c.digits_len-len.result c.digits_len-len.ensures.value c.requires few is).behind)

pub returns-clause-each : goal.returns-clause-each
returns-clause-each c = λ number rest few is.
    same_reading c.args.text.now c.args.word.now rest c.in_ok-rest.rest.now number c.in_ok-number.number c.digits_len-len.result c.digits_len-len.ensures.value c.requires few (search rules) is
    c.in_ok-number.ensures.found (rw c.from_place.ensures at c.in_ok-rest.ensures)
