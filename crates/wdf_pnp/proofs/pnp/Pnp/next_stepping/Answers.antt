-- The set's members are the devices that have a step left.
use Rattle.std.proofs.Common.{MatchOption, subst}
use Rattle.wdf_model.specs.parts.Pnp.{Pnp}
use Rattle.wdf_sets.specs.Members.{is_in}
use Rattle.wdf_sets.specs.Nexts.{IsNext, NoneFrom}
use Rattle.wdf_sets.proofs.Nexts.{found_also}
use Rattle.wdf_pnp.specs.Stepping.{has_steps}
use Rattle.wdf_pnp.proofs.pnp.Pnp.next_stepping.Goals as goal

pub returns : goal.returns
returns c =
    let P : Pnp → Type 0 = λ Q. MatchOption c.next.result (NoneFrom (has_steps Q) c.args.from c.args.end) (λ id. IsNext (has_steps Q) c.args.from c.args.end id) in
    subst P c.self.view_is (found_also (λ id. is_in id c.self.inside.stepping) (has_steps _) c.args.from c.args.end (λ id above below. c.self.invariant.same id) (λ id. id) c.next.result c.next.ensures)
