-- One event more: its frames, what is kept of it, and a place where no law is broken.
use Rattle.std.proofs.Common.{◌≡◌, ◌+◌, refl, ap, sym, ◌∙◌, arith}
use Rattle.wdf_laws.specs.Frames.{Frames, frames_step}
use Rattle.check_past.specs.Past.{Read}
use Rattle.check_trace.proofs.Numbers.{frames_at, frames_none, kept_more, number_at}
use Rattle.check_trace.proofs.Broken.{broken_here}
use Rattle.check_trace.proofs.checker.first_broken.Goals as goal

pub loop-k-init : goal.loop-k-init
loop-k-init c = (c.make-frames.ensures ∙ sym frames_none, λ j h. absurd (omega arith), c.in_ok-past.ensures)

pub returns-in-Some : goal.returns-in-Some
returns-in-Some c = (
  c.loop-k.k,
  refl,
  omega arith,
  broken_here c.args.plan.now c.args.events.now c.loop-k.k c.loop-k.past c.loop-k.frames c.event_at-event.result.now _ c.event_at-event.ensures c.loop-k.invariant.2 c.loop-k.invariant.0 c.in-Some.ensures,
  c.loop-k.invariant.1,
)

pub step-requires : goal.step-requires
step-requires c =
    let n : c.loop-k.frames.number ≡ c.loop-k.k = ap (λ (F : Frames). F.number) c.loop-k.invariant.0 ∙ number_at c.args.events.now c.loop-k.k (omega arith) in
    omega arith

pub loop-k-preserved : goal.loop-k-preserved
loop-k-preserved c = (
  c.in_ok-step.ensures ∙ ap (λ F. frames_step F c.event_at-event.result.now) c.loop-k.invariant.0 ∙ sym (frames_at c.args.events.now c.loop-k.k c.event_at-event.result.now c.event_at-event.ensures),
  kept_more c.args.plan.now c.args.events.now c.loop-k.k c.loop-k.invariant.1
      (broken_here c.args.plan.now c.args.events.now c.loop-k.k c.loop-k.past c.loop-k.frames c.event_at-event.result.now _ c.event_at-event.ensures c.loop-k.invariant.2 c.loop-k.invariant.0 c.in-None.ensures),
  c.in_ok-past-2.ensures ∙ ap (λ (R : Read). record { plan = R.plan; all = R.all; number = R.number + 1 }) c.loop-k.invariant.2,
)
