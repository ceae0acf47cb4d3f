use Rattle.std.proofs.Common.{◌∙◌, ap}
use Rattle.wdf_refusals.specs.Heritage.{driver_given}
use Rattle.wdf_refusals.proofs.Heritages.{effective_is}
use Rattle.wdf_refusals.proofs.heritage.Heritage.effective.Goals as goal

pub returns : goal.returns
returns c =
    effective_is c.args.self.now c.args.block c.args.device _ _ _ _ _ c.given-own.ensures c.of_device-inherited.ensures.level c.of_device-inherited.ensures.scope (c.self.invariant.of_driver ∙ ap driver_given c.self.view_is) (rw (c.or-2.ensures, c.or.ensures) at c.unwrap_or.ensures) (rw (c.or-4.ensures, c.or-3.ensures) at c.unwrap_or-2.ensures)
