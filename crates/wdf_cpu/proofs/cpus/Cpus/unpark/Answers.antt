-- The frame is on the processor, and there is room for it.
use Rattle.std.proofs.Common.{◌≡◌, true, Some, None, refl, ap, ◌∙◌, arith}
use Rattle.std.specs.Option.{option_map}
use Rattle.wdf_base.specs.declared.ids.ObjectId.{ObjectId}
use Rattle.wdf_model.specs.declared.entries.Running.{Running}
use Rattle.wdf_model.specs.parts.Cpus.{frame_of}
use Rattle.wdf_model.specs.Tables.{contains}
use Rattle.wdf_cpu.specs.Kept.{cpus_in}
use Rattle.wdf_cpu.specs.ParkedFor.{lock_key}
use Rattle.wdf_cpu.proofs.Keeping.{kept_unpark}
use Rattle.wdf_cpu.proofs.Live.{parked_once, room_to_unpark}
use Rattle.wdf_cpu.proofs.Parking.{parked_counted, parking_unpark}
use Rattle.wdf_cpu.proofs.Swapping.{swapped_by}
use Rattle.wdf_cpu.proofs.Ticks.{spending_unpark}
use Rattle.wdf_cpu.proofs.cpus.Cpus.unpark.Goals as goal

pub push_on-requires-clause-room : goal.push_on-requires-clause-room
push_on-requires-clause-room c =
    let a = c.self.inside in
    let is : contains c.args.f.0 a.parked.entries ≡ true = cc in
    room_to_unpark (cpus_in a) a.live.items c.args.cpu.0 c.args.f.0 (parked_once (cpus_in a) a.live.items c.args.f.0 c.self.invariant.kept.live is) c.self.invariant.kept.live

pub invariant_of-self : goal.invariant_of-self
invariant_of-self c =
    let a = c.self.inside in
    let h = c.self.invariant in
    let is : contains c.args.f.0 a.parked.entries ≡ true = cc in
    let one = parked_once (cpus_in a) a.live.items c.args.f.0 h.kept.live is in
    let lock : option_map (λ (o : ObjectId). o.0) (Some c.lock_key-lock.result) ≡ Some (lock_key (frame_of (cpus_in a) c.args.f.0)) = ap Some (c.lock_key-lock.ensures ∙ ap (λ (r : Running). lock_key r.frame) c.get.ensures.value) in
    record {
      live_room = h.live_room;
      peaks_room = h.peaks_room;
      parked_room = omega arith;
      kept = rw (c.push_on.ensures.pushed, c.remove_number.ensures.entries)
          (kept_unpark (cpus_in a) a.live.items a.peaks.items a.on a.waits c.args.cpu.0 c.args.f.0 is h.kept);
      parked_for = rw (c.push_on.ensures.pushed, c.remove_number.ensures.entries)
          (parking_unpark (cpus_in a) a.parked_for c.moves.new.self c.args.cpu.0 c.args.f.0 one
          (swapped_by a.parked_for c.moves.new.self (Some c.lock_key-lock.result) None (Some (lock_key (frame_of (cpus_in a) c.args.f.0))) None c.moves.ensures lock refl (parked_counted (cpus_in a) a.parked_for c.args.f.0 one h.parked_for)) h.parked_for);
      untils = rw (c.push_on.ensures.pushed, c.remove_number.ensures.entries) (spending_unpark (cpus_in a) a.untils c.args.cpu.0 c.args.f.0 one h.untils);
    }
