-- The frame at the place is one more, or isn't.
use Rattle.std.proofs.Common.{true, false, take, sym, ◌∙◌, arith, length-take}
use Rattle.std.proofs.lemmas.List.Sums.{count_by-le-length, count_by_more_no, count_by_more_yes}
use Rattle.wdf_model.specs.parts.Cpus.{all_frames, frame_of}
use Rattle.wdf_cpu.specs.FrameTests.{passes}
use Rattle.wdf_cpu.proofs.Counting.{passes_at}
use Rattle.wdf_cpu.proofs.cpus.Cpus.count.Goals as goal
use Rattle.wdf_cpu.proofs.cpus.Cpus.count.Goals.{then-passes, else-passes}

pub overflow_add-count : goal.overflow_add-count
overflow_add-count c =
    let few = count_by-le-length (λ f. passes c.args.test (frame_of c.args.self.now f)) (take c.loop-place.place (all_frames c.args.self.now)) in
    let many = length-take c.loop-place.place (all_frames c.args.self.now) in
    let small = c.live_len-place-end.ensures.small in
    omega arith

pub loop-place-preserved : goal.loop-place-preserved
loop-place-preserved c = elim c.if-passes.branch [
  | then-passes w ↦
      let more = count_by_more_yes (λ f. passes c.args.test (frame_of c.args.self.now f)) (all_frames c.args.self.now) c.loop-place.place 0 (omega arith)
      (passes_at c.args.self.now c.args.test c.loop-place.place c.live_at.result.0 c.frame.result.now true c.live_at.ensures c.frame.ensures (sym c.passes.ensures ∙ w.if-passes.true)) in
      omega arith
  | else-passes w ↦
      let same = count_by_more_no (λ f. passes c.args.test (frame_of c.args.self.now f)) (all_frames c.args.self.now) c.loop-place.place 0 (omega arith)
      (passes_at c.args.self.now c.args.test c.loop-place.place c.live_at.result.0 c.frame.result.now false c.live_at.ensures c.frame.ensures (sym c.passes.ensures ∙ w.if-passes.false)) in
      omega arith
]
