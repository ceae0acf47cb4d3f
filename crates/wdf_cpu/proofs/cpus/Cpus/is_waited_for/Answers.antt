-- The count of those that wait for it isn't 0.
use Rattle.std.proofs.Common.{◌==◌, not, ap, ◌∙◌}
use Rattle.wdf_model.specs.Tables.{same_id}
use Rattle.wdf_model.specs.State.{waits_for}
use Rattle.wdf_model.specs.parts.Cpus.{all_frames, frame_of}
use Rattle.wdf_cpu.specs.Kept.{cpus_in}
use Rattle.wdf_cpu.specs.Keys.{wait_key}
use Rattle.wdf_cpu.proofs.Counting.{any_counted, waits_by_key}
use Rattle.wdf_cpu.proofs.cpus.Cpus.is_waited_for.Goals as goal

pub returns-then-o-lt-OBJECTS : goal.returns-then-o-lt-OBJECTS
returns-then-o-lt-OBJECTS c =
    let C = cpus_in c.self.inside in
    rw (← c.self.view_is)
    (ap (λ n. not (n == 0)) (c.of.ensures ∙ c.self.invariant.kept.waits.counted c.args.o.0 c.if-o-lt-OBJECTS.true)
    ∙ any_counted (λ f. waits_for c.args.o.0 (frame_of C f).pending) (λ f. same_id (wait_key (frame_of C f)) c.args.o.0) (λ f. waits_by_key c.args.o.0 (frame_of C f).pending) (all_frames C))
