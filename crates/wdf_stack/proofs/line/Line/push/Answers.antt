-- The new request is at the end, and the line stays in order.
use Rattle.std.proofs.Common.{◌≡◌, ◌+◌, ◌<◌, false, [], ◌∷◌, length, refl, ap, subst, length-append, arith}
use Rattle.wdf_model.specs.declared.stack.Descent.TheVariants as descent
use Rattle.wdf_model.specs.declared.stack.Forwarded.{Forwarded}
use Rattle.wdf_model.specs.agents.Connector.{is_waiting}
use Rattle.wdf_stack.specs.Line.{Row, has_post}
use Rattle.wdf_stack.specs.Spans.{IsWithin, lower_key, number_key}
use Rattle.wdf_stack.proofs.Placing.{placed_pushed, placed_sent}
use Rattle.wdf_stack.proofs.Walking.{none_pushed}
use Rattle.wdf_stack.proofs.line.Line.push.Goals as goal

pub invariant_of-self : goal.invariant_of-self
invariant_of-self c =
    let new : Forwarded = record { request = c.args.request; post = c.args.post; cancelled = false; descent = descent.Waiting } in
    let place : length c.as_slice-place.result.now ≡ length c.self.inside.sent.items = ap length c.as_slice-place.ensures.value in
    let room : length c.self.inside.sent.items < c.self.inside.room = (let e = ap (λ (r : Row). length r.sent) c.self.view_is in let f = ap (λ (r : Row). r.room) c.self.view_is in omega (arith, c.requires, e, f)) in
    let small : length c.self.inside.sent.items + c.self.inside.left_in_front < 4294967295 = omega (arith, room, c.self.invariant.counted, c.self.invariant.small) in
    let within : IsWithin c.span_at-span.result (length c.self.inside.sent.items) c.self.inside.left c.self.inside.left_in_front = subst (λ n. IsWithin c.span_at-span.result n c.self.inside.left c.self.inside.left_in_front) place c.span_at-span.ensures.within in
    let long = length-append c.self.inside.sent.items (new ∷ []) in
    record {
      capacity = omega (arith, c.self.invariant.capacity, c.push_reserved.ensures.capacity);
      within = rw c.push_reserved.ensures.items (omega (arith, room, long));
      small = c.self.invariant.small;
      counted = c.self.invariant.counted;
      requests = rw (c.push_reserved.ensures.items, c.note.ensures, c.from.ensures)
          (placed_sent c.self.inside.by_request c.self.inside.sent.items c.self.inside.left c.self.inside.left_in_front new c.span_at-span.result c.self.invariant.requests within small);
      lowers = rw c.push_reserved.ensures.items (placed_pushed lower_key c.self.inside.by_lower c.self.inside.sent.items c.self.inside.left c.self.inside.left_in_front c.self.invariant.lowers new refl);
      numbers = rw c.push_reserved.ensures.items (placed_pushed number_key c.self.inside.by_number c.self.inside.sent.items c.self.inside.left c.self.inside.left_in_front c.self.invariant.numbers new refl);
      waiting = rw (c.push_reserved.ensures.items, c.min-self-inside.ensures, place) (none_pushed is_waiting c.self.inside.waiting c.self.inside.sent.items c.self.invariant.waiting new);
      due = rw (c.push_reserved.ensures.items, c.min-self-inside-2.ensures, place) (none_pushed has_post c.self.inside.due c.self.inside.sent.items c.self.invariant.due new);
    }
