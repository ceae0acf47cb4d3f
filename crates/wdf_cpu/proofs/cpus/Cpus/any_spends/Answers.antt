-- Some frame spends where the greatest tick is later.
use Rattle.std.proofs.Common.{nat_lt, refl, ap, ◌∙◌}
use Rattle.std.specs.List.{list_any}
use Rattle.wdf_model.specs.parts.Cpus.{Cpus, all_frames, frame_of}
use Rattle.wdf_cpu.specs.Kept.{cpus_in}
use Rattle.wdf_cpu.proofs.Counting.{any_counted}
use Rattle.wdf_cpu.proofs.Ticks.{some_spends}
use Rattle.wdf_cpu.proofs.cpus.Cpus.any_spends.Goals as goal

pub returns : goal.returns
returns c =
    let C = cpus_in c.self.inside in
    some_spends C c.self.inside.untils c.args.time c.latest.result (c.latest.ensures c.args.time) c.self.invariant.untils
    ∙ any_counted (λ f. nat_lt c.args.time (frame_of C f).until) (λ f. nat_lt c.args.time (frame_of C f).until) (λ f. refl) (all_frames C)
    ∙ ap (λ (D : Cpus). list_any (λ f. nat_lt c.args.time (frame_of D f).until) (all_frames D)) c.self.view_is
