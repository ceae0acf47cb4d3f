-- Its target says which.
use Rattle.std.proofs.Common.{slice_get, sym, ap, ◌∙◌}
use Rattle.wdf_target.specs.Finished.{done_in, finished_in}
use Rattle.wdf_target.proofs.Acts.{entry_read}
use Rattle.wdf_target.proofs.Noting.{all_finished}
use Rattle.wdf_target.proofs.targets.Targets.nth_finished.Goals as goal

pub returns-in-Some : goal.returns-in-Some
returns-in-Some c =
    c.nth_done.ensures
    ∙ ap (λ t. slice_get (done_in t) c.args.k) (sym (entry_read c.self.inside.targets.items c.deref.result.now c.args.t.0 c.in-Some.target.now c.deref.ensures.value c.in-Some.ensures.lookup.0 c.in-Some.ensures.lookup.1))
    ∙ ap (λ xs. slice_get xs c.args.k) (all_finished c.self.inside.targets.items c.self.inside.holders.items c.self.invariant.kept c.args.t.0)
    ∙ ap (λ T. slice_get (finished_in T c.args.t.0) c.args.k) c.self.view_is
