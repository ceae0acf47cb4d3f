-- The others come nearer, as far as they were behind, and the tables still lead to them.
use Rattle.std.proofs.Common.{◌≡◌, length, filter, ap, ◌∙◌, arith}
use Rattle.std.proofs.lemmas.List.Sums.{count_by-le-length, length-filter}
use Rattle.wdf_model.specs.agents.Connector.{is_waiting}
use Rattle.wdf_stack.specs.Line.{has_post, is_in_front, stays}
use Rattle.wdf_stack.specs.Spans.{lower_key, number_key, request_key}
use Rattle.wdf_stack.proofs.Placing.{Counts, placed_forgotten, placed_gone}
use Rattle.wdf_stack.proofs.Walking.{none_gone}
use Rattle.wdf_stack.proofs.line.Line.let_go.Goals as goal

pub first_due_in-self-inside-requires : goal.first_due_in-self-inside-requires
first_due_in-self-inside-requires c =
    rw (c.drop_request-gone.ensures.items, c.saturating_sub.ensures)
    (none_gone has_post c.self.inside.due c.self.inside.sent.items c.self.invariant.due c.args.r.0 c.drop_request-gone.result c.drop_request-gone.ensures.gone)

pub invariant_of-self : goal.invariant_of-self
invariant_of-self c =
    let front : c.is_in_front-in_front.result ≡ is_in_front c.args.r.0 c.self.inside.sent.items = c.is_in_front-in_front.ensures ∙ ap (is_in_front c.args.r.0) c.as_slice.ensures.value in
    let counts : Counts c.args.r.0 c.self.inside.sent.items c.drop_request-gone.result c.self.inside.left c.self.inside.left_in_front c.saturating_add-self-inside.result c.counted-self-inside.result = record {
      all = omega (arith, c.saturating_add-self-inside.ensures);
      ahead = (λ e. c.counted-self-inside.ensures.more (front ∙ e), λ e. c.counted-self-inside.ensures.same (front ∙ e));
    } in
    let gone = c.drop_request-gone.ensures.gone in
    let few = length-filter (stays c.args.r.0) c.self.inside.sent.items in
    let most = count_by-le-length (stays c.args.r.0) c.self.inside.sent.items in
    record {
      capacity = omega (arith, c.self.invariant.capacity, c.drop_request-gone.ensures.capacity);
      within = rw c.drop_request-gone.ensures.items (omega (arith, c.self.invariant.within, few, most));
      small = c.self.invariant.small;
      counted = c.counted-self-inside.ensures.small;
      requests = rw (c.drop_request-gone.ensures.items, c.forget.ensures, c.from.ensures)
          (placed_forgotten c.self.inside.by_request c.args.r.0 c.self.inside.sent.items c.saturating_add-self-inside.result c.counted-self-inside.result
          (placed_gone request_key c.self.inside.by_request c.args.r.0 c.self.inside.sent.items c.drop_request-gone.result c.self.inside.left c.self.inside.left_in_front c.saturating_add-self-inside.result c.counted-self-inside.result c.self.invariant.requests gone counts));
      lowers = rw c.drop_request-gone.ensures.items
          (placed_gone lower_key c.self.inside.by_lower c.args.r.0 c.self.inside.sent.items c.drop_request-gone.result c.self.inside.left c.self.inside.left_in_front c.saturating_add-self-inside.result c.counted-self-inside.result c.self.invariant.lowers gone counts);
      numbers = rw c.drop_request-gone.ensures.items
          (placed_gone number_key c.self.inside.by_number c.args.r.0 c.self.inside.sent.items c.drop_request-gone.result c.self.inside.left c.self.inside.left_in_front c.saturating_add-self-inside.result c.counted-self-inside.result c.self.invariant.numbers gone counts);
      waiting = rw (c.drop_request-gone.ensures.items, c.saturating_sub-self-inside.ensures)
          (none_gone is_waiting c.self.inside.waiting c.self.inside.sent.items c.self.invariant.waiting c.args.r.0 c.drop_request-gone.result gone);
      due = c.first_due_in-self-inside.ensures;
    }
