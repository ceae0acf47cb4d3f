-- The set's members are the targets that have a request whose completion routine is due.
use Rattle.std.proofs.Common.{MatchOption, subst}
use Rattle.wdf_model.specs.parts.Targets.{Targets}
use Rattle.wdf_sets.specs.Nexts.{IsNext, NoneFrom}
use Rattle.wdf_target.specs.Finished.{has_finished}
use Rattle.wdf_target.proofs.Noting.{next_noted}
use Rattle.wdf_target.proofs.targets.Targets.next_with_finished.Goals as goal

pub returns : goal.returns
returns c =
    let P : Targets → Type 0 = λ T. MatchOption c.next.result (NoneFrom (has_finished T) c.args.from c.args.end) (λ id. IsNext (has_finished T) c.args.from c.args.end id) in
    subst P c.self.view_is (next_noted c.self.inside.targets.items c.self.inside.holders.items c.self.invariant.kept c.self.inside.with_done c.args.from c.args.end c.self.invariant.noted c.next.result c.next.ensures)
