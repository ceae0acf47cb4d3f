-- One frame after the other.
use Rattle.std.proofs.Common.{◌+◌, drop, ◌∙◌, ap}
use Rattle.wdf_cpu.proofs.Leasts.{above_found, above_from, above_passed, least_above}
use Rattle.wdf_cpu.proofs.order.least_above_on.Goals as goal

pub loop-place-init : goal.loop-place-init
loop-place-init c = least_above c.args.f c.args.stack.now

pub returns-then-above-f : goal.returns-then-above-f
returns-then-above-f c = above_found c.args.f c.loop-place.least c.args.stack.now c.loop-place.place c.get-above.result c.get-above.ensures c.if-above-f.true ∙ c.loop-place.invariant

pub loop-place-preserved : goal.loop-place-preserved
loop-place-preserved c = ap (λ found. above_from c.args.f found (drop (c.loop-place.place + 1) c.args.stack.now)) c.lesser_if-least.ensures ∙ above_passed c.args.f c.loop-place.least c.args.stack.now c.loop-place.place c.get-above.result c.get-above.ensures c.if-above-f.false ∙ c.loop-place.invariant
