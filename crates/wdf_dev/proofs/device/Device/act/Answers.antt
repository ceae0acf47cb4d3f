-- What the action says.
use Rattle.std.proofs.Common.{◌≡◌, ◌<◌, length, Some, slice_get, ap, subst, true, false, arith}
use Rattle.wdf_base.specs.declared.event.Action.TheVariants as action
use Rattle.wdf_model.specs.agents.Device.{Device}
use Rattle.wdf_dev.proofs.Acting.{acts, at_is, fits, turned}
use Rattle.wdf_dev.proofs.device.Device.act.Goals as goal

pub put_at-requires : goal.put_at-requires
put_at-requires c =
    let size = ap (λ (H : Device). length H.actions) c.self.view_is in
    let within : c.args.at < length c.self.inside.actions.items = omega arith in
    record { room = fits _ c.self.inside.actions.items c.args.at c.index.result.now (action.Raise c.in-Raise.interrupt) c.self.invariant.within (at_is _ _ _ c.index.ensures within) c.in-Raise.is }

pub put_at-requires-in-Lower : goal.put_at-requires-in-Lower
put_at-requires-in-Lower c =
    let size = ap (λ (H : Device). length H.actions) c.self.view_is in
    let within : c.args.at < length c.self.inside.actions.items = omega arith in
    record { room = fits _ c.self.inside.actions.items c.args.at c.index.result.now (action.Lower c.in-Lower.interrupt) c.self.invariant.within (at_is _ _ _ c.index.ensures within) c.in-Lower.is }

pub returns-in-Set : goal.returns-in-Set
returns-in-Set c =
    let size = ap (λ (H : Device). length H.actions) c.self.view_is in
    let within : c.args.at < length c.self.inside.actions.items = omega arith in
    let there : slice_get c.args.self.now.actions c.args.at ≡ Some c.index.result.now = subst (λ (H : Device). slice_get H.actions c.args.at ≡ Some c.index.result.now) c.self.view_is (at_is _ _ _ c.index.ensures within) in
    acts c.args.self.now _ c.args.self.now.actions c.args.at c.index.result.now (action.Set c.in-Set.register c.in-Set.value) there c.in-Set.is c.store.ensures

pub returns-in-Raise : goal.returns-in-Raise
returns-in-Raise c =
    let size = ap (λ (H : Device). length H.actions) c.self.view_is in
    let within : c.args.at < length c.self.inside.actions.items = omega arith in
    let there : slice_get c.args.self.now.actions c.args.at ≡ Some c.index.result.now = subst (λ (H : Device). slice_get H.actions c.args.at ≡ Some c.index.result.now) c.self.view_is (at_is _ _ _ c.index.ensures within) in
    acts c.args.self.now _ c.args.self.now.actions c.args.at c.index.result.now (action.Raise c.in-Raise.interrupt) there c.in-Raise.is
    (turned c.args.self.now _ c.put_at.new.entries.items c.in-Raise.interrupt true c.self.view_is c.put_at.ensures.entries)

pub returns-in-Lower : goal.returns-in-Lower
returns-in-Lower c =
    let size = ap (λ (H : Device). length H.actions) c.self.view_is in
    let within : c.args.at < length c.self.inside.actions.items = omega arith in
    let there : slice_get c.args.self.now.actions c.args.at ≡ Some c.index.result.now = subst (λ (H : Device). slice_get H.actions c.args.at ≡ Some c.index.result.now) c.self.view_is (at_is _ _ _ c.index.ensures within) in
    acts c.args.self.now _ c.args.self.now.actions c.args.at c.index.result.now (action.Lower c.in-Lower.interrupt) there c.in-Lower.is
    (turned c.args.self.now _ c.put_at-in-Lower.new.entries.items c.in-Lower.interrupt false c.self.view_is c.put_at-in-Lower.ensures.entries)
