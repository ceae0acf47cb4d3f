-- The request is at the places that the table says, and the line stays in order.
use Rattle.std.proofs.Common.{◌≡◌, ◌-◌, List, length, min, ap, ◌∙◌, arith}
use Rattle.std.proofs.lemmas.List.{length-map}
use Rattle.wdf_model.specs.agents.Connector.{cancelled_one, is_waiting}
use Rattle.wdf_model.specs.declared.stack.Forwarded.{Forwarded}
use Rattle.wdf_stack.specs.declared.spans.Span.{Span}
use Rattle.wdf_stack.specs.Line.{StaysOutside, has_post}
use Rattle.wdf_stack.specs.Spans.{lower_key, number_key, request_key, span_of}
use Rattle.wdf_stack.proofs.Placing.{placed_mapped, stays_outside}
use Rattle.wdf_stack.proofs.Walking.{cancel_keeps, cancel_keeps_keys, none_changed, none_mapped}
use Rattle.wdf_stack.proofs.line.Line.cancel.Goals as goal

pub cancel_among-requires-clause-others : goal.cancel_among-requires-clause-others
cancel_among-requires-clause-others c =
    let span : c.of-span.result ≡ span_of c.self.inside.by_request c.args.r.0 = c.of-span.ensures ∙ ap (span_of c.self.inside.by_request) c.from.ensures in
    stays_outside request_key c.self.inside.by_request c.self.inside.sent.items c.self.inside.left c.self.inside.left_in_front c.args.r.0 (cancelled_one c.args.r.0) c.self.invariant.requests (cancel_keeps c.args.r.0) _ _
    (c.places_of-from.ensures.from ∙ ap (λ (s : Span). s.low - c.self.inside.left) span)
    (c.places_of-from.ensures.to ∙ ap (λ (s : Span). min (s.high - c.self.inside.left_in_front) (length c.as_slice.result.now)) span ∙ ap (λ (xs : List Forwarded). min ((span_of c.self.inside.by_request c.args.r.0).high - c.self.inside.left_in_front) (length xs)) c.as_slice.ensures.value)

pub first_due_in-self-inside-requires : goal.first_due_in-self-inside-requires
first_due_in-self-inside-requires c =
    let span : c.of-span.result ≡ span_of c.self.inside.by_request c.args.r.0 = c.of-span.ensures ∙ ap (span_of c.self.inside.by_request) c.from.ensures in
    let outside : StaysOutside (cancelled_one c.args.r.0) c.places_of-from.result.0 c.places_of-from.result.1 c.self.inside.sent.items = stays_outside request_key c.self.inside.by_request c.self.inside.sent.items c.self.inside.left c.self.inside.left_in_front c.args.r.0 (cancelled_one c.args.r.0) c.self.invariant.requests (cancel_keeps c.args.r.0) _ _
    (c.places_of-from.ensures.from ∙ ap (λ (s : Span). s.low - c.self.inside.left) span)
    (c.places_of-from.ensures.to ∙ ap (λ (s : Span). min (s.high - c.self.inside.left_in_front) (length c.as_slice.result.now)) span ∙ ap (λ (xs : List Forwarded). min ((span_of c.self.inside.by_request c.args.r.0).high - c.self.inside.left_in_front) (length xs)) c.as_slice.ensures.value) in
    rw (c.cancel_among.ensures.items, c.min.ensures)
    (none_changed has_post c.self.inside.due c.self.inside.sent.items c.self.invariant.due (cancelled_one c.args.r.0) c.places_of-from.result.0 c.places_of-from.result.1 outside)

pub invariant_of-self : goal.invariant_of-self
invariant_of-self c =
    let keeps = cancel_keeps_keys c.args.r.0 in
    let long = length-map c.self.inside.sent.items (cancelled_one c.args.r.0) in
    record {
      capacity = omega (arith, c.self.invariant.capacity, c.cancel_among.ensures.capacity);
      within = rw c.cancel_among.ensures.items (omega (arith, c.self.invariant.within, long));
      small = c.self.invariant.small;
      counted = c.self.invariant.counted;
      requests = rw c.cancel_among.ensures.items (placed_mapped request_key c.self.inside.by_request c.self.inside.sent.items c.self.inside.left c.self.inside.left_in_front c.self.invariant.requests (cancelled_one c.args.r.0) keeps.request);
      lowers = rw c.cancel_among.ensures.items (placed_mapped lower_key c.self.inside.by_lower c.self.inside.sent.items c.self.inside.left c.self.inside.left_in_front c.self.invariant.lowers (cancelled_one c.args.r.0) keeps.lower);
      numbers = rw c.cancel_among.ensures.items (placed_mapped number_key c.self.inside.by_number c.self.inside.sent.items c.self.inside.left c.self.inside.left_in_front c.self.invariant.numbers (cancelled_one c.args.r.0) keeps.number);
      waiting = rw c.cancel_among.ensures.items (none_mapped is_waiting c.self.inside.waiting c.self.inside.sent.items c.self.invariant.waiting (cancelled_one c.args.r.0) keeps.waiting);
      due = c.first_due_in-self-inside.ensures;
    }
