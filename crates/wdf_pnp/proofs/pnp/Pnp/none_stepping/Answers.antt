-- The set is empty exactly where no device has a step left.
use Rattle.std.proofs.Common.{◌==◌, ◌≡◌, length, ap, subst, ◌∙◌}
use Rattle.wdf_model.specs.parts.Pnp.{Pnp}
use Rattle.wdf_sets.specs.Members.{members}
use Rattle.wdf_pnp.specs.Stepping.{none_stepping}
use Rattle.wdf_pnp.proofs.Stepping.{none_noted}
use Rattle.wdf_pnp.proofs.pnp.Pnp.none_stepping.Goals as goal

pub returns : goal.returns
returns c =
    let P : Pnp → Type 0 = λ Q. (length (members c.self.inside.stepping) == 0) ≡ none_stepping Q in
    ap (λ n. n == 0) c.len.ensures ∙ subst P c.self.view_is (none_noted _ c.self.inside.stepping c.self.invariant)
