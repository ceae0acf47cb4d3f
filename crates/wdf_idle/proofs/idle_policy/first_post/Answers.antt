-- The first device for which something is due.
use Rattle.std.proofs.Common.{◌≡◌, Some, slice_get, add-one, ap, sym, ◌∙◌}
use Rattle.std.proofs.lemmas.Option.{slice_get-get_or}
use Rattle.wdf_plan_index.proofs.Gathering.{passed}
use Rattle.wdf_model.specs.agents.IdlePolicy.{idle_post}
use Rattle.wdf_idle.proofs.Gathering.{first_found}
use Rattle.wdf_idle.proofs.idle_policy.first_post.Goals as goal

pub returns-in-Some : goal.returns-in-Some
returns-in-Some c =
    let here : slice_get c.args.devices.now c.loop-device.device-index ≡ Some c.device-item.result = slice_get-get_or c.args.devices.now c.loop-device.device-index c.device-item.result c.loop-device-test.true ∙ ap Some (sym c.device-item.is) in
    sym (first_found (idle_post c.args.now) c.args.devices.now c.loop-device.device-index c.device-item.result c.in-Some.post here c.loop-device.invariant (sym c.post.ensures ∙ c.in-Some.is))

pub loop-device-preserved : goal.loop-device-preserved
loop-device-preserved c =
    let here : slice_get c.args.devices.now c.loop-device.device-index ≡ Some c.device-item.result = slice_get-get_or c.args.devices.now c.loop-device.device-index c.device-item.result c.loop-device-test.true ∙ ap Some (sym c.device-item.is) in
    rw add-one (passed (idle_post c.args.now) c.args.devices.now c.loop-device.device-index c.device-item.result here (sym c.post.ensures ∙ c.in_default.is) ∙ c.loop-device.invariant)
