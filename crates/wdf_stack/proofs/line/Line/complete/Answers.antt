-- The request is at the places that the table says, and the line stays in order.
use Rattle.std.proofs.Common.{◌≡◌, ◌-◌, List, length, min, ap, ◌∙◌, arith}
use Rattle.std.proofs.lemmas.List.{length-map}
use Rattle.wdf_model.specs.agents.Connector.{completed_one, is_waiting}
use Rattle.wdf_model.specs.declared.stack.Forwarded.{Forwarded}
use Rattle.wdf_stack.specs.declared.spans.Span.{Span}
use Rattle.wdf_stack.specs.Line.{StaysOutside, has_post}
use Rattle.wdf_stack.specs.Spans.{lower_key, number_key, request_key, span_of}
use Rattle.wdf_stack.proofs.Placing.{placed_mapped, stays_outside}
use Rattle.wdf_stack.proofs.Walking.{complete_keeps, complete_keeps_keys, none_changed, none_mapped}
use Rattle.wdf_stack.proofs.line.Line.complete.Goals as goal

pub complete_among-requires-clause-others : goal.complete_among-requires-clause-others
complete_among-requires-clause-others c =
    let span : c.of-span.result ≡ span_of c.self.inside.by_lower c.args.x.0 = c.of-span.ensures ∙ ap (span_of c.self.inside.by_lower) c.from.ensures in
    stays_outside lower_key c.self.inside.by_lower c.self.inside.sent.items c.self.inside.left c.self.inside.left_in_front c.args.x.0 (completed_one c.args.x.0 c.args.status) c.self.invariant.lowers (complete_keeps c.args.x.0 c.args.status) _ _
    (c.places_of-from.ensures.from ∙ ap (λ (s : Span). s.low - c.self.inside.left) span)
    (c.places_of-from.ensures.to ∙ ap (λ (s : Span). min (s.high - c.self.inside.left_in_front) (length c.as_slice.result.now)) span ∙ ap (λ (xs : List Forwarded). min ((span_of c.self.inside.by_lower c.args.x.0).high - c.self.inside.left_in_front) (length xs)) c.as_slice.ensures.value)

pub first_due_in-self-inside-requires : goal.first_due_in-self-inside-requires
first_due_in-self-inside-requires c =
    let span : c.of-span.result ≡ span_of c.self.inside.by_lower c.args.x.0 = c.of-span.ensures ∙ ap (span_of c.self.inside.by_lower) c.from.ensures in
    let outside : StaysOutside (completed_one c.args.x.0 c.args.status) c.places_of-from.result.0 c.places_of-from.result.1 c.self.inside.sent.items = stays_outside lower_key c.self.inside.by_lower c.self.inside.sent.items c.self.inside.left c.self.inside.left_in_front c.args.x.0 (completed_one c.args.x.0 c.args.status) c.self.invariant.lowers (complete_keeps c.args.x.0 c.args.status) _ _
    (c.places_of-from.ensures.from ∙ ap (λ (s : Span). s.low - c.self.inside.left) span)
    (c.places_of-from.ensures.to ∙ ap (λ (s : Span). min (s.high - c.self.inside.left_in_front) (length c.as_slice.result.now)) span ∙ ap (λ (xs : List Forwarded). min ((span_of c.self.inside.by_lower c.args.x.0).high - c.self.inside.left_in_front) (length xs)) c.as_slice.ensures.value) in
    rw (c.complete_among.ensures.items, c.min.ensures)
    (none_changed has_post c.self.inside.due c.self.inside.sent.items c.self.invariant.due (completed_one c.args.x.0 c.args.status) c.places_of-from.result.0 c.places_of-from.result.1 outside)

pub invariant_of-self : goal.invariant_of-self
invariant_of-self c =
    let keeps = complete_keeps_keys c.args.x.0 c.args.status in
    let long = length-map c.self.inside.sent.items (completed_one c.args.x.0 c.args.status) in
    record {
      capacity = omega (arith, c.self.invariant.capacity, c.complete_among.ensures.capacity);
      within = rw c.complete_among.ensures.items (omega (arith, c.self.invariant.within, long));
      small = c.self.invariant.small;
      counted = c.self.invariant.counted;
      requests = rw c.complete_among.ensures.items (placed_mapped request_key c.self.inside.by_request c.self.inside.sent.items c.self.inside.left c.self.inside.left_in_front c.self.invariant.requests (completed_one c.args.x.0 c.args.status) keeps.request);
      lowers = rw c.complete_among.ensures.items (placed_mapped lower_key c.self.inside.by_lower c.self.inside.sent.items c.self.inside.left c.self.inside.left_in_front c.self.invariant.lowers (completed_one c.args.x.0 c.args.status) keeps.lower);
      numbers = rw c.complete_among.ensures.items (placed_mapped number_key c.self.inside.by_number c.self.inside.sent.items c.self.inside.left c.self.inside.left_in_front c.self.invariant.numbers (completed_one c.args.x.0 c.args.status) keeps.number);
      waiting = rw c.complete_among.ensures.items (none_mapped is_waiting c.self.inside.waiting c.self.inside.sent.items c.self.invariant.waiting (completed_one c.args.x.0 c.args.status) keeps.waiting);
      due = c.first_due_in-self-inside.ensures;
    }
