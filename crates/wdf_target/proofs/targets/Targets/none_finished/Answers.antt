-- The set is empty exactly where no completion routine is due.
use Rattle.std.proofs.Common.{◌==◌, ap, ◌∙◌}
use Rattle.wdf_target.specs.Finished.{none_finished}
use Rattle.wdf_target.proofs.Noting.{none_noted}
use Rattle.wdf_target.proofs.targets.Targets.none_finished.Goals as goal

pub returns : goal.returns
returns c =
    ap (λ n. n == 0) c.len.ensures
    ∙ none_noted c.self.inside.targets.items c.self.inside.holders.items c.self.invariant.kept c.self.inside.with_done c.self.invariant.noted
    ∙ ap none_finished c.self.view_is
