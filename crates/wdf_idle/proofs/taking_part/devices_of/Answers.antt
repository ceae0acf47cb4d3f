-- One id more.
use Rattle.std.proofs.Common.{add-one, refl, sym, ◌∙◌, ◌≡◌, Some, slice_get, slice_index_or}
use Rattle.std.proofs.lemmas.Option.{slice_get-get_or}
use Rattle.wdf_model.specs.agents.IdlePolicy.{device_if_part}
use Rattle.wdf_plan_index.proofs.Gathering.{kept, passed}
use Rattle.wdf_idle.proofs.taking_part.devices_of.Goals as goal
use Rattle.wdf_idle.proofs.taking_part.devices_of.Goals.{in-Some+in_ok-push, in_default}

pub loop-id-preserved : goal.loop-id-preserved
loop-id-preserved c =
    let ids = c.as_slice-id-items.result.now in
    let id = slice_index_or ids c.loop-id.id-index 0 in
    let here : slice_get ids c.loop-id.id-index ≡ Some id = slice_get-get_or ids c.loop-id.id-index 0 c.loop-id-test.true in
    elim c.match-branch-3.branch [
      | in-Some+in_ok-push w ↦ rw (w.devices-is, w.in_ok-push.ensures.items, c.loop-id.invariant, add-one, kept (device_if_part c.args.plan.now) ids c.loop-id.id-index id w.in-Some.device here (sym c.in_ok-device.ensures ∙ w.in-Some.is)) refl
      | in_default w ↦ rw (w.devices-is, c.loop-id.invariant, add-one, passed (device_if_part c.args.plan.now) ids c.loop-id.id-index id here (sym c.in_ok-device.ensures ∙ w.in_default.is)) refl
    ]
