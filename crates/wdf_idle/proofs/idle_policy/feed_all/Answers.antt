-- One device more has heard.
use Rattle.std.proofs.Common.{◌<◌, length, arith}
use Rattle.std.proofs.lemmas.List.Edits.{map_over_more}
use Rattle.wdf_model.specs.agents.IdlePolicy.{idle_after}
use Rattle.wdf_idle.proofs.idle_policy.feed_all.Goals as goal

pub loop-device-preserved : goal.loop-device-preserved
loop-device-preserved c =
    let within : c.loop-device.device-index < length c.args.devices.now = omega arith in
    rw (c.feed.ensures, ← c.device-item.is) (map_over_more (idle_after c.args.now c.args.event.now) c.args.devices.now c.loop-device.devices c.loop-device.device-index c.device-item.result within c.loop-device.invariant c.device-item.is)
