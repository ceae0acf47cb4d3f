-- The register is there, and takes the value.
use Rattle.std.proofs.Common.{◌≡◌, refl, ap, sym, ◌∙◌, true}
use Rattle.wdf_model.specs.agents.Device as model
use Rattle.wdf_dev.proofs.Acting.{some_register, stored_in}
use Rattle.wdf_dev.proofs.device.Device.store.Goals as goal

pub returns-then-is_some : goal.returns-then-is_some
returns-then-is_some c =
    let has : model.has_register (model.own_register c.args.self.now c.args.k) ≡ true = ap model.has_register (sym c.own_register.ensures) ∙ some_register c.own_register.result (sym c.is_some.ensures ∙ c.if-is_some.true) in
    stored_in c.args.self.now _ c.args.k c.args.value _ c.self.view_is has refl
