-- Its target says how many.
use Rattle.std.proofs.Common.{length, sym, ap, ◌∙◌}
use Rattle.wdf_target.specs.Finished.{done_in, finished_in}
use Rattle.wdf_target.proofs.Acts.{entry_read}
use Rattle.wdf_target.proofs.Noting.{all_finished}
use Rattle.wdf_target.proofs.targets.Targets.finished_len.Goals as goal

pub returns-in-Some : goal.returns-in-Some
returns-in-Some c =
    c.done_len.ensures
    ∙ ap (λ t. length (done_in t)) (sym (entry_read c.self.inside.targets.items c.deref.result.now c.args.t.0 c.in-Some.target.now c.deref.ensures.value c.in-Some.ensures.lookup.0 c.in-Some.ensures.lookup.1))
    ∙ ap length (all_finished c.self.inside.targets.items c.self.inside.holders.items c.self.invariant.kept c.args.t.0)
    ∙ ap (λ T. length (finished_in T c.args.t.0)) c.self.view_is
