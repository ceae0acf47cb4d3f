-- One device more.
use Rattle.std.proofs.Common.{◌≡◌, Some, slice_get, add-one, refl, ap, sym, ◌∙◌}
use Rattle.std.proofs.lemmas.Option.{slice_get-get_or}
use Rattle.wdf_model.specs.agents.IdlePolicy.{later_sleep}
use Rattle.wdf_plan_index.proofs.Gathering.{kept, passed}
use Rattle.wdf_idle.proofs.Gathering.{fold_last}
use Rattle.wdf_idle.proofs.idle_policy.least_tick.Goals as goal
use Rattle.wdf_idle.proofs.idle_policy.least_tick.Goals.{in-Some, in_default}

pub loop-device-preserved : goal.loop-device-preserved
loop-device-preserved c =
    let here : slice_get c.args.devices.now c.loop-device.device-index ≡ Some c.device-item.result = slice_get-get_or c.args.devices.now c.loop-device.device-index c.device-item.result c.loop-device-test.true ∙ ap Some (sym c.device-item.is) in
    elim c.match-later_sleep.branch [
      | in-Some w ↦ rw (w.least-is, w.lesser_tick-least.ensures, c.loop-device.invariant, add-one, kept (later_sleep c.args.now) c.args.devices.now c.loop-device.device-index c.device-item.result w.in-Some.tick here (sym c.later_sleep.ensures ∙ w.in-Some.is), fold_last) refl
      | in_default w ↦ rw (w.least-is, c.loop-device.invariant, add-one, passed (later_sleep c.args.now) c.args.devices.now c.loop-device.device-index c.device-item.result here (sym c.later_sleep.ensures ∙ w.in_default.is)) refl
    ]
