-- Where nothing waits, nothing has an arrival.
use Rattle.std.proofs.Common.{◌≤◌, length, ap, subst, ◌∙◌, arith}
use Rattle.wdf_model.specs.agents.Connector.{arrived_below, first_arrived, is_waiting}
use Rattle.wdf_stack.specs.Line.{NoneBefore, Row}
use Rattle.wdf_stack.proofs.Finding.{nothing_waits}
use Rattle.wdf_stack.proofs.line.Line.arrive.Goals as goal

pub returns-else-place-count : goal.returns-else-place-count
returns-else-place-count c =
    let long = ap length c.as_slice-count.ensures.value in
    let past : length c.self.inside.sent.items ≤ c.first_waiting-place.result = omega (arith, c.if-place-count.false, long) in
    let none : NoneBefore is_waiting c.first_waiting-place.result c.self.inside.sent.items = subst (NoneBefore is_waiting c.first_waiting-place.result) c.as_slice.ensures.value c.first_waiting-place.ensures.before in
    ap (λ xs. (let r : Row = record { room = c.self.inside.room; sent = xs } in r)) (nothing_waits (arrived_below c.args.number c.args.answer) c.self.inside.sent.items c.first_waiting-place.result past none)
    ∙ ap (λ (r : Row). (let t : Row = record { room = r.room; sent = first_arrived (arrived_below c.args.number c.args.answer) r.sent } in t)) c.self.view_is
