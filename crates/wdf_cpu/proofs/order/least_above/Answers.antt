-- One processor more.
use Rattle.std.proofs.Common.{◌∷◌, ◌+◌, drop, fold, sym, ◌∙◌, ap}
use Rattle.std.specs.List.{flat_map}
use Rattle.std.proofs.lemmas.List.{drop_more}
use Rattle.wdf_model.specs.Tables.{lesser}
use Rattle.wdf_model.specs.rules.Waits.{above_in}
use Rattle.wdf_maps.specs.Least.{lesser_if}
use Rattle.wdf_cpu.proofs.Leasts.{above_more}
use Rattle.wdf_cpu.proofs.order.least_above.Goals as goal

pub loop-stack-preserved : goal.loop-stack-preserved
loop-stack-preserved c =
    let rest = drop (c.loop-stack.stack-index + 1) c.args.stacks.now in
    ap (λ found. fold lesser found (flat_map (above_in c.args.f) rest)) (c.lesser_if-least.ensures ∙ ap (lesser_if c.loop-stack.least) c.least_above_on.ensures)
    ∙ sym (above_more c.args.f c.loop-stack.least c.stack-item.result rest)
    ∙ ap (λ fs. fold lesser c.loop-stack.least (flat_map (above_in c.args.f) (fs ∷ rest))) c.stack-item.is
    ∙ ap (λ ss. fold lesser c.loop-stack.least (flat_map (above_in c.args.f) ss)) (sym (drop_more c.args.stacks.now c.loop-stack.stack-index c.stack-item.result c.loop-stack-test.true))
    ∙ c.loop-stack.invariant
