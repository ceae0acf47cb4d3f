-- One device's sequence is changed, and the set says whether it has a step left.
use Rattle.std.proofs.Common.{length, ap, arith}
use Rattle.wdf_model.specs.parts.Pnp.{taken_step}
use Rattle.wdf_pnp.proofs.Devices.{sequence_changed}
use Rattle.wdf_pnp.proofs.Stepping.{noted}
use Rattle.wdf_pnp.proofs.pnp.Pnp.taken.Goals as goal

pub returns-clause-done : goal.returns-clause-done
returns-clause-done c =
    let long = ap (λ Q. length Q.devices) c.self.view_is in
    rw (← c.self.view_is)
    (sequence_changed (record { devices = c.self.inside.devices.items }) c.args.d.0 taken_step
    c.index_mut-device.result.now c.take.new.self (omega (arith, long)) c.index_mut-device.ensures.value c.take.ensures)

pub note-requires : goal.note-requires
note-requires c =
    let long = ap (λ Q. length Q.devices) c.self.view_is in
    let room = c.self.invariant.room in
    omega (arith, long, room)

pub invariant_of-self : goal.invariant_of-self
invariant_of-self c =
    let long = ap (λ Q. length Q.devices) c.self.view_is in
    rw c.note.ensures (noted c.self.inside.devices.items c.self.inside.stepping c.args.d.0 c.take.new.self (omega (arith, long)) c.self.invariant)
