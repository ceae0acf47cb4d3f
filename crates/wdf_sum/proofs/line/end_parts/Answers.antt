-- Each part is the one that is there.
use Rattle.std.proofs.Common.{sym, ◌∙◌, codes}
use Rattle.std.proofs.lemmas.List.{append_cancel_left}
use Rattle.wdf_sum.proofs.line.end_parts.Goals as goal

pub returns-in_err-front-clause-each : goal.returns-in_err-front-clause-each
returns-in_err-front-clause-each c = λ from to count events rest f g h i is. rw c.from_residual.ensures (c.in_err-front.ensures _ is)

pub returns-in_err-from-clause-each : goal.returns-in_err-from-clause-each
returns-in_err-from-clause-each c = λ from to count events rest f g h i is.
    let front = append_cancel_left (codes "seeds ") c.in_ok-front.front.now _ (sym c.in_ok-front.ensures ∙ is) in
    rw c.from_residual-in_err-from.ensures (c.in_err-from.ensures.each from _ f front)

pub returns-in_err-to-clause-each : goal.returns-in_err-to-clause-each
returns-in_err-to-clause-each c = λ from to count events rest f g h i is.
    let front = append_cancel_left (codes "seeds ") c.in_ok-front.front.now _ (sym c.in_ok-front.ensures ∙ is) in
    let first = c.in_ok-from.ensures.each from _ f front in
    rw c.from_residual-in_err-to.ensures (c.in_err-to.ensures.each to _ g first.1)

pub returns-in_err-count-clause-each : goal.returns-in_err-count-clause-each
returns-in_err-count-clause-each c = λ from to count events rest f g h i is.
    let front = append_cancel_left (codes "seeds ") c.in_ok-front.front.now _ (sym c.in_ok-front.ensures ∙ is) in
    let first = c.in_ok-from.ensures.each from _ f front in
    let second = c.in_ok-to.ensures.each to _ g first.1 in
    rw c.from_residual-in_err-count.ensures (c.in_err-count.ensures.each count _ h second.1)

pub returns-in_err-events-clause-each : goal.returns-in_err-events-clause-each
returns-in_err-events-clause-each c = λ from to count events rest f g h i is.
    let front = append_cancel_left (codes "seeds ") c.in_ok-front.front.now _ (sym c.in_ok-front.ensures ∙ is) in
    let first = c.in_ok-from.ensures.each from _ f front in
    let second = c.in_ok-to.ensures.each to _ g first.1 in
    let third = c.in_ok-count.ensures.each count _ h second.1 in
    rw c.from_residual-in_err-events.ensures (c.in_err-events.ensures.each events _ i third.1)

pub returns-clause-each : goal.returns-clause-each
returns-clause-each c = λ from to count events rest f g h i is.
    let front = append_cancel_left (codes "seeds ") c.in_ok-front.front.now _ (sym c.in_ok-front.ensures ∙ is) in
    let first = c.in_ok-from.ensures.each from _ f front in
    let second = c.in_ok-to.ensures.each to _ g first.1 in
    let third = c.in_ok-count.ensures.each count _ h second.1 in
    let fourth = c.in_ok-events.ensures.each events _ i third.1 in
    (first.0, second.0, third.0, fourth.0, fourth.1)
