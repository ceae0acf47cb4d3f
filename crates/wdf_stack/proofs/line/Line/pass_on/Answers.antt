-- The request is at the places that the table says, and the line stays in order.
use Rattle.std.proofs.Common.{◌≡◌, ◌-◌, List, length, min, ap, ◌∙◌, arith}
use Rattle.std.proofs.lemmas.List.{length-map}
use Rattle.wdf_model.specs.agents.Connector.{passed_on_one, is_waiting}
use Rattle.wdf_model.specs.declared.stack.Forwarded.{Forwarded}
use Rattle.wdf_stack.specs.declared.spans.Span.{Span}
use Rattle.wdf_stack.specs.Line.{StaysOutside, has_post}
use Rattle.wdf_stack.specs.Spans.{lower_key, number_key, request_key, span_of}
use Rattle.wdf_stack.proofs.Placing.{placed_mapped, stays_outside}
use Rattle.wdf_stack.proofs.Walking.{pass_keeps, pass_keeps_keys, none_changed, none_mapped}
use Rattle.wdf_stack.proofs.line.Line.pass_on.Goals as goal

pub pass_on_among-requires-clause-others : goal.pass_on_among-requires-clause-others
pass_on_among-requires-clause-others c =
    let span : c.of-span.result ≡ span_of c.self.inside.by_number c.args.arrival = c.of-span.ensures in
    stays_outside number_key c.self.inside.by_number c.self.inside.sent.items c.self.inside.left c.self.inside.left_in_front c.args.arrival (passed_on_one c.args.arrival) c.self.invariant.numbers (pass_keeps c.args.arrival) _ _
    (c.places_of-from.ensures.from ∙ ap (λ (s : Span). s.low - c.self.inside.left) span)
    (c.places_of-from.ensures.to ∙ ap (λ (s : Span). min (s.high - c.self.inside.left_in_front) (length c.as_slice.result.now)) span ∙ ap (λ (xs : List Forwarded). min ((span_of c.self.inside.by_number c.args.arrival).high - c.self.inside.left_in_front) (length xs)) c.as_slice.ensures.value)

pub first_due_in-self-inside-requires : goal.first_due_in-self-inside-requires
first_due_in-self-inside-requires c =
    let span : c.of-span.result ≡ span_of c.self.inside.by_number c.args.arrival = c.of-span.ensures in
    let outside : StaysOutside (passed_on_one c.args.arrival) c.places_of-from.result.0 c.places_of-from.result.1 c.self.inside.sent.items = stays_outside number_key c.self.inside.by_number c.self.inside.sent.items c.self.inside.left c.self.inside.left_in_front c.args.arrival (passed_on_one c.args.arrival) c.self.invariant.numbers (pass_keeps c.args.arrival) _ _
    (c.places_of-from.ensures.from ∙ ap (λ (s : Span). s.low - c.self.inside.left) span)
    (c.places_of-from.ensures.to ∙ ap (λ (s : Span). min (s.high - c.self.inside.left_in_front) (length c.as_slice.result.now)) span ∙ ap (λ (xs : List Forwarded). min ((span_of c.self.inside.by_number c.args.arrival).high - c.self.inside.left_in_front) (length xs)) c.as_slice.ensures.value) in
    rw (c.pass_on_among.ensures.items, c.min.ensures)
    (none_changed has_post c.self.inside.due c.self.inside.sent.items c.self.invariant.due (passed_on_one c.args.arrival) c.places_of-from.result.0 c.places_of-from.result.1 outside)

pub invariant_of-self : goal.invariant_of-self
invariant_of-self c =
    let keeps = pass_keeps_keys c.args.arrival in
    let long = length-map c.self.inside.sent.items (passed_on_one c.args.arrival) in
    record {
      capacity = omega (arith, c.self.invariant.capacity, c.pass_on_among.ensures.capacity);
      within = rw c.pass_on_among.ensures.items (omega (arith, c.self.invariant.within, long));
      small = c.self.invariant.small;
      counted = c.self.invariant.counted;
      requests = rw c.pass_on_among.ensures.items (placed_mapped request_key c.self.inside.by_request c.self.inside.sent.items c.self.inside.left c.self.inside.left_in_front c.self.invariant.requests (passed_on_one c.args.arrival) keeps.request);
      lowers = rw c.pass_on_among.ensures.items (placed_mapped lower_key c.self.inside.by_lower c.self.inside.sent.items c.self.inside.left c.self.inside.left_in_front c.self.invariant.lowers (passed_on_one c.args.arrival) keeps.lower);
      numbers = rw c.pass_on_among.ensures.items (placed_mapped number_key c.self.inside.by_number c.self.inside.sent.items c.self.inside.left c.self.inside.left_in_front c.self.invariant.numbers (passed_on_one c.args.arrival) keeps.number);
      waiting = rw c.pass_on_among.ensures.items (none_mapped is_waiting c.self.inside.waiting c.self.inside.sent.items c.self.invariant.waiting (passed_on_one c.args.arrival) keeps.waiting);
      due = c.first_due_in-self-inside.ensures;
    }
