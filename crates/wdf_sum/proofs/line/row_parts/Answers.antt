-- Each part is the one that is there.
use Rattle.wdf_sum.proofs.line.row_parts.Goals as goal

pub returns-in_err-count-clause-each : goal.returns-in_err-count-clause-each
returns-in_err-count-clause-each c = λ count seed events kind f g h is. rw c.from_residual.ensures (c.in_err-count.ensures.each count _ f is)

pub returns-in_err-seed-clause-each : goal.returns-in_err-seed-clause-each
returns-in_err-seed-clause-each c = λ count seed events kind f g h is.
    let first = c.in_ok-count.ensures.each count _ f is in
    rw c.from_residual-in_err-seed.ensures (c.in_err-seed.ensures.each seed _ g first.1)

pub returns-in_err-events-clause-each : goal.returns-in_err-events-clause-each
returns-in_err-events-clause-each c = λ count seed events kind f g h is.
    let first = c.in_ok-count.ensures.each count _ f is in
    let second = c.in_ok-seed.ensures.each seed _ g first.1 in
    rw c.from_residual-in_err-events.ensures (c.in_err-events.ensures.each events _ h second.1)

pub returns-clause-each : goal.returns-clause-each
returns-clause-each c = λ count seed events kind f g h is.
    let first = c.in_ok-count.ensures.each count _ f is in
    let second = c.in_ok-seed.ensures.each seed _ g first.1 in
    let third = c.in_ok-events.ensures.each events _ h second.1 in
    (first.0, second.0, third.0, third.1)
