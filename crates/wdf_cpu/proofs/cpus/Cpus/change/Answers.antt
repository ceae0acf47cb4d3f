-- A live frame is counted as it was, and then as it is.
use Rattle.std.proofs.Common.{◌≡◌, ◌<◌, Some, length, ap, sym, ◌∙◌, arith}
use Rattle.std.specs.Option.{option_map}
use Rattle.wdf_base.specs.declared.ids.ObjectId.{ObjectId}
use Rattle.wdf_model.specs.declared.entries.Running.{Running}
use Rattle.wdf_model.specs.parts.Cpus.{Cpus, frame_of}
use Rattle.wdf_cpu.specs.Keys.{object_key, wait_key}
use Rattle.wdf_cpu.specs.Kept.{cpus_in}
use Rattle.wdf_cpu.specs.ParkedFor.{lock_key}
use Rattle.wdf_cpu.proofs.Writes.{as_many}
use Rattle.wdf_cpu.proofs.Keeping.{live_on, live_until, on_fits, sound_change, untils_fit, waits_fit}
use Rattle.wdf_cpu.proofs.Numbers.{found_is_contained}
use Rattle.wdf_cpu.proofs.Parking.{parked_fits, parking_change}
use Rattle.wdf_cpu.proofs.Swapping.{swapped_by}
use Rattle.wdf_cpu.proofs.cpus.Cpus.change.Goals as goal

pub moves_if-requires : goal.moves_if-requires
moves_if-requires c = on_fits c.self.inside c.self.invariant c.object_key.result

pub moves_if-requires-2 : goal.moves_if-requires-2
moves_if-requires-2 c = waits_fit c.self.inside c.self.invariant c.wait_key.result

pub moves_if-requires-3 : goal.moves_if-requires-3
moves_if-requires-3 c = parked_fits c.self.inside c.self.invariant (Some c.lock_key.result)

pub move_until_if-requires-clause-room : goal.move_until_if-requires-clause-room
move_until_if-requires-clause-room c = untils_fit c.self.inside c.self.invariant

pub move_until_if-requires-clause-there : goal.move_until_if-requires-clause-there
move_until_if-requires-clause-there c =
    live_until c.self.inside c.self.invariant c.args.f.0 c.entry_at-live.result (rw c.deref.ensures.value at c.entry_at-live.ensures)
    c.get.result.now.frame.until (ap (λ (r : Running). r.frame.until) c.get.ensures.value)

pub invariant_of-self : goal.invariant_of-self
invariant_of-self c =
    let a = c.self.inside in
    let h = c.self.invariant in
    let is = rw c.deref.ensures.value at c.entry_at-live.ensures in
    let object : option_map (λ (o : ObjectId). o.0) c.object_key-object.result ≡ object_key (frame_of (cpus_in a) c.args.f.0) = c.object_key-object.ensures ∙ ap (λ (r : Running). object_key r.frame) c.get.ensures.value in
    let awaited : option_map (λ (o : ObjectId). o.0) c.wait_key-awaited.result ≡ wait_key (frame_of (cpus_in a) c.args.f.0) = c.wait_key-awaited.ensures ∙ ap (λ (r : Running). wait_key r.frame) c.get.ensures.value in
    let lock : option_map (λ (o : ObjectId). o.0) (Some c.lock_key-lock.result) ≡ Some (lock_key (frame_of (cpus_in a) c.args.f.0)) = ap Some (c.lock_key-lock.ensures ∙ ap (λ (r : Running). lock_key r.frame) c.get.ensures.value) in
    rw c.change.ensures
    (sound_change a h c.args.f.0 c.entry_at-live.result is c.args.frame c.wait_key-awaited.result c.wait_key.result c.get.result.now.frame.until
    c.moves_if.new.counts c.moves_if-2.new.counts c.moves_if-3.new.counts c.move_until_if.new.untils
    (λ e. swapped_by a.on c.moves_if.new.counts c.object_key-object.result c.object_key.result _ _ (rw e at c.moves_if.ensures) object c.object_key.ensures (live_on a h c.args.f.0 c.entry_at-live.result is e))
    (λ e. rw e at c.moves_if.ensures)
    awaited c.wait_key.ensures c.moves_if-2.ensures
    (parking_change a h c.args.f.0 c.args.frame c.has_number-parked.result (Some c.lock_key-lock.result) (Some c.lock_key.result) c.moves_if-3.new.counts
    (c.has_number-parked.ensures ∙ found_is_contained c.args.f.0 a.parked.entries) c.moves_if-3.ensures lock (ap Some c.lock_key.ensures))
    (ap (λ (r : Running). r.frame.until) c.get.ensures.value) c.move_until_if.ensures.moved c.move_until_if.ensures.other)

pub change-requires : goal.change-requires
change-requires c =
    let many : length c.args.self.now.frames ≡ length c.self.inside.frames = ap (λ (C : Cpus). length C.frames) (sym c.self.view_is) in
    omega arith

pub returns-clause-frames : goal.returns-clause-frames
returns-clause-frames c =
    let many : length c.args.self.now.frames ≡ length c.self.inside.frames = ap (λ (C : Cpus). length C.frames) (sym c.self.view_is) in
    let there : c.args.f.0 < length c.self.inside.frames = omega arith in
    ap length c.change.ensures ∙ as_many c.self.inside.frames c.args.f.0 _ there ∙ sym many
