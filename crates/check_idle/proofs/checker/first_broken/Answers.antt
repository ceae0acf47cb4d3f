-- One event more: the time after it, what is kept of it, and a place at which the law isn't broken.
use Rattle.std.proofs.Common.{◌+◌, refl, ap, ◌∙◌, arith}
use Rattle.check_past.specs.Past.{Read}
use Rattle.check_idle.proofs.Firsts.{breaks_as, none_more, time_next, time_none, watches_next}
use Rattle.check_idle.proofs.Words.{all_open}
use Rattle.check_idle.proofs.checker.first_broken.Goals as goal

pub loop-k-init : goal.loop-k-init
loop-k-init c = (c.in_ok-past.ensures, time_none, c.in_ok-watches.ensures ∙ all_open c.args.plan.now, λ j h. absurd (omega arith))

pub returns-then-any_breaks : goal.returns-then-any_breaks
returns-then-any_breaks c = (
  c.loop-k.k,
  refl,
  omega arith,
  breaks_as c.args.plan.now c.args.events.now c.loop-k.k c.event_at-event.result.now c.loop-k.now c.as_slice.result.now c.any_breaks.result c.event_at-event.ensures c.loop-k.invariant.1 (c.as_slice.ensures.value ∙ c.loop-k.invariant.2) c.any_breaks.ensures ∙ c.if-any_breaks.true,
  c.loop-k.invariant.3,
)

pub loop-k-preserved : goal.loop-k-preserved
loop-k-preserved c = (
  c.in_ok-past-2.ensures ∙ ap (λ (R : Read). record { plan = R.plan; all = R.all; number = R.number + 1 }) c.loop-k.invariant.0,
  time_next c.args.events.now c.loop-k.k c.event_at-event.result.now c.loop-k.now c.time_after-now.result c.event_at-event.ensures c.loop-k.invariant.1 c.time_after-now.ensures,
  watches_next c.args.plan.now c.args.events.now c.loop-k.k c.event_at-event.result.now c.loop-k.past c.loop-k.now c.loop-k.watches.items _ c.event_at-event.ensures c.loop-k.invariant.0 c.loop-k.invariant.1 c.loop-k.invariant.2 c.in_ok-feed_all.ensures,
  none_more c.args.plan.now c.args.events.now c.loop-k.k c.loop-k.invariant.3
      (breaks_as c.args.plan.now c.args.events.now c.loop-k.k c.event_at-event.result.now c.loop-k.now c.as_slice.result.now c.any_breaks.result c.event_at-event.ensures c.loop-k.invariant.1 (c.as_slice.ensures.value ∙ c.loop-k.invariant.2) c.any_breaks.ensures ∙ c.if-any_breaks.false),
)
