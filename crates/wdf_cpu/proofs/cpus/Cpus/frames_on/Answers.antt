-- The frames on the object are those that are counted under it.
use Rattle.std.proofs.Common.{sym, ◌∙◌}
use Rattle.std.proofs.lemmas.List.Sums.{length-filter}
use Rattle.wdf_model.specs.parts.Cpus.{all_frames, is_on}
use Rattle.wdf_cpu.specs.Kept.{cpus_in}
use Rattle.wdf_cpu.proofs.cpus.Cpus.frames_on.Goals as goal

pub returns-then-o-lt-OBJECTS : goal.returns-then-o-lt-OBJECTS
returns-then-o-lt-OBJECTS c =
    let C = cpus_in c.self.inside in
    rw (← c.self.view_is)
    (c.of.ensures ∙ c.self.invariant.kept.on.counted c.args.o.0 c.if-o-lt-OBJECTS.true ∙ sym (length-filter (is_on C c.args.o.0) (all_frames C)))

pub returns-else-o-lt-OBJECTS : goal.returns-else-o-lt-OBJECTS
returns-else-o-lt-OBJECTS c = c.count.ensures ∙ sym (length-filter (is_on c.args.self.now c.args.o.0) (all_frames c.args.self.now))
