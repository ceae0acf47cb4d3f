-- The frame at the place settles it, or is one more that does not pass.
use Rattle.std.proofs.Common.{true, false, ◌||◌, get_or, sym, ap, ◌∙◌, arith}
use Rattle.std.proofs.lemmas.List.Folds.{list_any_at, list_any_more}
use Rattle.wdf_model.specs.parts.Cpus.{all_frames, frame_of}
use Rattle.wdf_cpu.specs.FrameTests.{passes}
use Rattle.wdf_cpu.proofs.Counting.{passes_at}
use Rattle.wdf_cpu.proofs.cpus.Cpus.any.Goals as goal

pub returns-then-passes : goal.returns-then-passes
returns-then-passes c =
    sym (list_any_at (λ f. passes c.args.test (frame_of c.args.self.now f)) (all_frames c.args.self.now) c.loop-place.place 0 (omega arith)
    (passes_at c.args.self.now c.args.test c.loop-place.place c.live_at.result.0 c.frame.result.now true c.live_at.ensures c.frame.ensures (sym c.passes.ensures ∙ c.if-passes.true)))

pub loop-place-preserved : goal.loop-place-preserved
loop-place-preserved c =
    let here = passes_at c.args.self.now c.args.test c.loop-place.place c.live_at.result.0 c.frame.result.now false c.live_at.ensures c.frame.ensures (sym c.passes.ensures ∙ c.if-passes.false) in
    list_any_more (λ f. passes c.args.test (frame_of c.args.self.now f)) (all_frames c.args.self.now) c.loop-place.place 0 (omega arith)
    ∙ ap (λ b. b || passes c.args.test (frame_of c.args.self.now (get_or (all_frames c.args.self.now) c.loop-place.place 0))) c.loop-place.invariant ∙ here
