use Rattle.std.proofs.Common.{Some, sym, ◌∙◌, ap}
use Rattle.wdf_refusals.specs.Heritage.{given_in}
use Rattle.wdf_refusals.proofs.Heritages.{kept_right}
use Rattle.wdf_refusals.proofs.heritage.Heritage.given.Goals as goal

pub returns-in-Some-Some : goal.returns-in-Some-Some
returns-in-Some-Some c =
    kept_right _ _ _ c.args.block c.in-Some-Some.given c.self.invariant (sym (c.in-Some-Some.is ∙ ap Some c.in-Some-Some.field-0-is) ∙ (rw c.as_slice.ensures.value at c.item.ensures)) ∙ ap (λ s. given_in s c.args.block) c.self.view_is
