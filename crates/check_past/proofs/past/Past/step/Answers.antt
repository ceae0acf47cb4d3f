-- One event more is kept.
use Rattle.std.proofs.Common.{◌≡◌, length, slice_get, Some, ap, sym, ◌∙◌, arith}
use Rattle.wdf_laws.specs.declared.sign.Sign.TheVariants as sign
use Rattle.wdf_laws.specs.Events.{taken}
use Rattle.check_past.specs.Maps.{number_at, group_at}
use Rattle.check_past.specs.Groups.{with_taking}
use Rattle.check_past.specs.Order.{with_entry, with_number, with_head}
use Rattle.check_past.specs.Past.{Read, device_of_interrupt}
use Rattle.check_past.proofs.Steps.{signs_more, lists_more, entered_is, shown_is, times_within}
use Rattle.check_past.proofs.past.Past.step.Goals as goal

pub step-requires-clause-referenced : goal.step-requires-clause-referenced
step-requires-clause-referenced c = λ o.
    let is = c.self.invariant.signs_are.referenced_is o in
    let few = times_within (sign.Referenced o) c.self.inside.kin.all c.self.inside.number in
    let number : c.self.inside.number ≡ c.args.self.number = ap (λ (R : Read). R.number) c.self.view_is in
    let all : length c.self.inside.kin.all ≡ length c.args.self.all = ap (λ (R : Read). length R.all) c.self.view_is in
    let fits = c.all-all.type_inv in
    grind (arith, is, few, number, all, c.requires)

pub step-requires-clause-dereferenced : goal.step-requires-clause-dereferenced
step-requires-clause-dereferenced c = λ o.
    let is = c.self.invariant.signs_are.dereferenced_is o in
    let few = times_within (sign.Dereferenced o) c.self.inside.kin.all c.self.inside.number in
    let number : c.self.inside.number ≡ c.args.self.number = ap (λ (R : Read). R.number) c.self.view_is in
    let all : length c.self.inside.kin.all ≡ length c.args.self.all = ap (λ (R : Read). length R.all) c.self.view_is in
    let fits = c.all-all.type_inv in
    grind (arith, is, few, number, all, c.requires)

pub invariant_of-self : goal.invariant_of-self
invariant_of-self c =
    let here : slice_get c.self.inside.kin.all c.self.inside.number ≡ Some c.event_at-event.result.now = ap (λ es. slice_get es c.self.inside.number) (sym c.all-all.ensures) ∙ c.event_at-event.ensures in
    let number : c.self.inside.number ≡ c.args.self.number = ap (λ (R : Read). R.number) c.self.view_is in
    let all : length c.self.inside.kin.all ≡ length c.args.self.all = ap (λ (R : Read). length R.all) c.self.view_is in
    let shown = shown_is _ _ _ _ _ c.self.view_is c.shown-shown.ensures c.presented.ensures in
    record {
      within = omega (arith, number, all, c.requires);
      children_are = c.self.invariant.children_are;
      signs_are =
          signs_more c.self.inside.kin.plan c.self.inside.kin.all c.self.inside.number c.event_at-event.result.now c.self.inside.signs c.step.new.self _ _ here c.self.invariant.signs_are
          (entered_is _ _ _ _ _ c.self.view_is c.is_device_entered-up.ensures c.passed.ensures)
          (entered_is _ _ _ _ _ c.self.view_is c.is_device_entered-enabled.ensures
          (c.device_of_interrupt-device.ensures ∙ ap (λ p. device_of_interrupt p c.passed_for-interrupt.result) c.plan-plan.ensures ∙ ap (device_of_interrupt c.self.inside.kin.plan) c.passed_for-interrupt.ensures))
          c.in_ok-step.ensures.lasts c.in_ok-step.ensures.up c.in_ok-step.ensures.enabled c.in_ok-step.ensures.referenced c.in_ok-step.ensures.dereferenced;
      lists_are =
          lists_more c.self.inside.kin.plan c.self.inside.kin.all c.self.inside.number c.event_at-event.result.now c.self.inside.lists _ here c.self.invariant.lists_are
          c.in_ok-step-2.ensures.arrivals
          (λ d. c.in_ok-step-2.ensures.takings d ∙ ap (λ p. with_taking p d (taken c.event_at-event.result.now) (group_at c.self.inside.lists.takings d)) c.plan-plan.ensures)
          (λ q. c.in_ok-step-2.ensures.tail_entries q ∙ ap (λ s. with_entry q s (number_at c.self.inside.lists.tail_entries q)) shown)
          (λ q. c.in_ok-step-2.ensures.tail_numbers q ∙ ap (λ s. with_number q s (number_at c.self.inside.lists.tail_numbers q)) shown)
          (λ q. c.in_ok-step-2.ensures.heads q ∙ ap (λ s. with_head q s (group_at c.self.inside.lists.heads q)) shown);
    }
