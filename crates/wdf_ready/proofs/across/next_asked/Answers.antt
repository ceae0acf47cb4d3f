-- This object, or the first that isn't below the next one that may be due.
use Rattle.std.proofs.Common.{arith}
use Rattle.wdf_ready.proofs.Skipped.{asked_here, asked_later, none_later, none_past}
use Rattle.wdf_ready.proofs.across.next_asked.Goals as goal

pub returns-then-from-objects : goal.returns-then-from-objects
returns-then-from-objects g c = none_past c.args.plan.now g.A.Agent.meaning c.args.parts.now c.args.rank c.args.objects.now c.args.from (omega (arith, c.if-from-objects.true))

pub returns-then-next-object : goal.returns-then-next-object
returns-then-next-object g c = asked_here c.args.plan.now g.A.Agent.meaning c.args.parts.now c.args.rank c.args.objects.now c.args.from (omega (arith, c.if-from-objects.false))

pub returns-then-place-objects : goal.returns-then-place-objects
returns-then-place-objects g c =
    asked_later c.args.plan.now g.A.Agent.meaning c.args.parts.now c.args.rank c.args.objects.now c.args.from c.requires.rising (omega (arith, c.if-from-objects.false))
    c.next_object-next.result c.next_object-next.ensures.nothing (omega (arith, c.if-next-object.false)) c.count_below-place.result c.count_below-place.ensures.within c.count_below-place.ensures.splits c.if-place-objects.true

pub returns-else-place-objects : goal.returns-else-place-objects
returns-else-place-objects g c =
    none_later c.args.plan.now g.A.Agent.meaning c.args.parts.now c.args.rank c.args.objects.now c.args.from c.requires.rising (omega (arith, c.if-from-objects.false))
    c.next_object-next.result c.next_object-next.ensures.nothing (omega (arith, c.if-next-object.false)) c.count_below-place.result c.count_below-place.ensures.within c.count_below-place.ensures.splits (omega (arith, c.if-place-objects.false))
