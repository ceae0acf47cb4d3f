-- A live frame is counted as it was, and then as it is. It stays on its object.
use Rattle.std.proofs.Common.{◌≡◌, ◌<◌, Some, length, refl, ap, sym, ◌∙◌, arith}
use Rattle.std.specs.Option.{option_map}
use Rattle.wdf_base.specs.declared.ids.ObjectId.{ObjectId}
use Rattle.wdf_model.specs.declared.entries.Running.{Running}
use Rattle.wdf_model.specs.parts.Cpus.{Cpus, frame_of}
use Rattle.wdf_cpu.specs.FrameUpdate.{gone}
use Rattle.wdf_cpu.specs.Keys.{wait_key}
use Rattle.wdf_cpu.specs.Kept.{cpus_in}
use Rattle.wdf_cpu.specs.ParkedFor.{lock_key}
use Rattle.wdf_cpu.proofs.Writes.{as_many}
use Rattle.wdf_cpu.proofs.Keeping.{live_until, sound_change, untils_fit, waits_fit}
use Rattle.wdf_cpu.proofs.Numbers.{found_is_contained}
use Rattle.wdf_cpu.proofs.Parking.{parked_fits, parking_change}
use Rattle.wdf_cpu.proofs.Swapping.{gone_object, stays_counted}
use Rattle.wdf_cpu.proofs.cpus.Cpus.go_on.Goals as goal

pub moves_if-requires : goal.moves_if-requires
moves_if-requires c = waits_fit c.self.inside c.self.invariant c.awaits.result

pub moves_if-requires-2 : goal.moves_if-requires-2
moves_if-requires-2 c = parked_fits c.self.inside c.self.invariant (Some c.lock_in.result)

pub move_until_if-requires-clause-room : goal.move_until_if-requires-clause-room
move_until_if-requires-clause-room c = untils_fit c.self.inside c.self.invariant

pub move_until_if-requires-clause-there : goal.move_until_if-requires-clause-there
move_until_if-requires-clause-there c =
    live_until c.self.inside c.self.invariant c.args.f.0 c.entry_at-live.result (rw c.deref.ensures.value at c.entry_at-live.ensures)
    c.get.result.now.frame.until (ap (λ (r : Running). r.frame.until) c.get.ensures.value)

pub invariant_of-self : goal.invariant_of-self
invariant_of-self c =
    let a = c.self.inside in
    let frame = gone c.args.update.now (frame_of (cpus_in a) c.args.f.0) in
    let awaited : option_map (λ (o : ObjectId). o.0) c.wait_key-awaited.result ≡ wait_key (frame_of (cpus_in a) c.args.f.0) = c.wait_key-awaited.ensures ∙ ap (λ (r : Running). wait_key r.frame) c.get.ensures.value in
    let lock : option_map (λ (o : ObjectId). o.0) (Some c.lock_key-lock.result) ≡ Some (lock_key (frame_of (cpus_in a) c.args.f.0)) = ap Some (c.lock_key-lock.ensures ∙ ap (λ (r : Running). lock_key r.frame) c.get.ensures.value) in
    rw c.go_on.ensures
    (sound_change a c.self.invariant c.args.f.0 c.entry_at-live.result (rw c.deref.ensures.value at c.entry_at-live.ensures) frame c.wait_key-awaited.result c.awaits.result c.get.result.now.frame.until
    a.on c.moves_if.new.counts c.moves_if-2.new.counts c.move_until_if.new.untils
    (λ e. stays_counted a.on _ _ (gone_object c.args.update.now (frame_of (cpus_in a) c.args.f.0)))
    (λ e. refl)
    awaited c.awaits.ensures c.moves_if.ensures
    (parking_change a c.self.invariant c.args.f.0 frame c.has_number-parked.result (Some c.lock_key-lock.result) (Some c.lock_in.result) c.moves_if-2.new.counts
    (c.has_number-parked.ensures ∙ found_is_contained c.args.f.0 a.parked.entries) c.moves_if-2.ensures lock (ap Some c.lock_in.ensures))
    (ap (λ (r : Running). r.frame.until) c.get.ensures.value) c.move_until_if.ensures.moved c.move_until_if.ensures.other)

pub returns-clause-frames : goal.returns-clause-frames
returns-clause-frames c =
    let many : length c.args.self.now.frames ≡ length c.self.inside.frames = ap (λ (C : Cpus). length C.frames) (sym c.self.view_is) in
    let there : c.args.f.0 < length c.self.inside.frames = omega arith in
    ap length c.go_on.ensures ∙ as_many c.self.inside.frames c.args.f.0 _ there ∙ sym many
