-- The request at the place has come further, and the tables lead to it.
use Rattle.std.proofs.Common.{◌+◌, ◌<◌, length, refl, sym, ap, subst, ◌∙◌, arith}
use Rattle.wdf_model.specs.agents.Connector.{is_waiting}
use Rattle.wdf_model.proofs.Maps.{as_long}
use Rattle.wdf_stack.specs.Line.{NoneBefore, Row, has_post}
use Rattle.wdf_stack.specs.Spans.{lower_in, lower_key, number_in, number_key}
use Rattle.wdf_stack.proofs.Placing.{placed_still, placed_there}
use Rattle.wdf_stack.proofs.Walking.{none_there}
use Rattle.wdf_stack.proofs.line.Line.set_at.Goals as goal

pub first_due_in-self-inside-requires : goal.first_due_in-self-inside-requires
first_due_in-self-inside-requires c =
    rw c.min.ensures (none_there has_post c.self.inside.due c.args.place c.self.inside.sent.items c.arrive_at.new.sent.items c.args.descent c.self.invariant.due c.arrive_at.ensures.there)

pub invariant_of-self : goal.invariant_of-self
invariant_of-self c =
    let set = c.arrive_at.ensures.there in
    let room : c.args.place < c.self.inside.room = (let e = ap (λ (r : Row). length r.sent) c.self.view_is in omega (arith, c.requires.within, c.self.invariant.within, e)) in
    let small : c.args.place + c.self.inside.left_in_front < 4294967295 = omega (arith, room, c.self.invariant.counted, c.self.invariant.small) in
    let long = ap length set.is ∙ as_long c.self.inside.sent.items c.args.place (record set.was { descent = c.args.descent }) in
    record {
      capacity = omega (arith, c.self.invariant.capacity, c.arrive_at.ensures.capacity);
      within = omega (arith, c.self.invariant.within, long);
      small = c.self.invariant.small;
      counted = c.self.invariant.counted;
      requests = placed_still c.self.inside.by_request c.self.inside.sent.items c.arrive_at.new.sent.items c.self.inside.left c.self.inside.left_in_front c.args.place c.args.descent c.self.invariant.requests set;
      lowers = rw (c.note_if_any.ensures, c.lower_of.ensures)
          (placed_there lower_key lower_in (λ f. refl) c.self.inside.by_lower c.self.inside.sent.items c.arrive_at.new.sent.items c.self.inside.left c.self.inside.left_in_front c.args.place c.args.descent c.span_at-span.result c.self.invariant.lowers set c.span_at-span.ensures.within small);
      numbers = rw (c.note_if_any-2.ensures, c.number_of.ensures)
          (placed_there number_key number_in (λ f. refl) c.self.inside.by_number c.self.inside.sent.items c.arrive_at.new.sent.items c.self.inside.left c.self.inside.left_in_front c.args.place c.args.descent c.span_at-span.result c.self.invariant.numbers set c.span_at-span.ensures.within small);
      waiting = λ k f l at. none_there is_waiting c.args.place c.args.place c.self.inside.sent.items c.arrive_at.new.sent.items c.args.descent (subst (NoneBefore is_waiting c.args.place) (sym (ap (λ (r : Row). r.sent) c.self.view_is)) c.requires.before) set k f (omega (arith, l)) at;
      due = c.first_due_in-self-inside.ensures;
    }
