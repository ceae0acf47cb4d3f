-- The new frame is counted, and there is room for it.
use Rattle.std.proofs.Common.{◌≡◌, false, None, refl, arith}
use Rattle.wdf_model.specs.Tables.{contains}
use Rattle.wdf_model.specs.parts.Cpus.{all_frames}
use Rattle.wdf_cpu.specs.Keys.{object_key, wait_key}
use Rattle.wdf_cpu.specs.Kept.{cpus_in}
use Rattle.wdf_cpu.proofs.Keeping.{kept_push, on_fits, untils_fit, waits_fit}
use Rattle.wdf_cpu.proofs.Live.{room_to_push}
use Rattle.wdf_cpu.proofs.Numbers.{absent_from}
use Rattle.wdf_cpu.proofs.Parking.{parking_push}
use Rattle.wdf_cpu.proofs.Swapping.{none_left, swapped_by}
use Rattle.wdf_cpu.proofs.Ticks.{spending_push}
use Rattle.wdf_cpu.proofs.cpus.Cpus.push.Goals as goal

pub moves-requires : goal.moves-requires
moves-requires c = on_fits c.self.inside c.self.invariant c.object_key.result

pub moves-requires-2 : goal.moves-requires-2
moves-requires-2 c = waits_fit c.self.inside c.self.invariant c.wait_key.result

pub moves-requires-3-clause-room : goal.moves-requires-3-clause-room
moves-requires-3-clause-room c = untils_fit c.self.inside c.self.invariant

pub push_on-requires-clause-room : goal.push_on-requires-clause-room
push_on-requires-clause-room c =
    let a = c.self.inside in
    let fresh : contains c.args.f.0 (all_frames (cpus_in a)) ≡ false = cc in
    room_to_push (cpus_in a) a.live.items c.args.cpu.0 c.args.f.0 (absent_from c.args.f.0 (all_frames (cpus_in a)) fresh) c.requires.room c.self.invariant.kept.live

pub invariant_of-self : goal.invariant_of-self
invariant_of-self c =
    let a = c.self.inside in
    let h = c.self.invariant in
    let fresh : contains c.args.f.0 (all_frames (cpus_in a)) ≡ false = cc in
    record {
      live_room = omega arith;
      peaks_room = omega arith;
      parked_room = h.parked_room;
      kept = rw (c.put.ensures, c.push_on.ensures.pushed, c.put_at.ensures.entries, c.put_at-2.ensures.entries)
          (kept_push (cpus_in a) a.live.items a.peaks.items a.on a.waits c.args.cpu.0 c.args.f.0 c.args.frame c.args.level.0 c.peak.result.0 c.moves.new.self c.moves-2.new.self
          c.requires.room fresh c.peak.ensures
          (swapped_by a.on c.moves.new.self None c.object_key.result None (object_key c.args.frame) c.moves.ensures refl c.object_key.ensures (none_left a.on))
          (swapped_by a.waits c.moves-2.new.self None c.wait_key.result None (wait_key c.args.frame) c.moves-2.ensures refl c.wait_key.ensures (none_left a.waits))
          h.kept);
      parked_for = rw (c.put.ensures, c.push_on.ensures.pushed) (parking_push (cpus_in a) a.parked_for c.args.cpu.0 c.args.f.0 c.args.frame c.args.level.0 (absent_from c.args.f.0 (all_frames (cpus_in a)) fresh) h.parked_for);
      untils = rw (c.put.ensures, c.push_on.ensures.pushed) (spending_push (cpus_in a) a.untils c.moves-3.new.self c.args.cpu.0 c.args.f.0 c.args.frame c.args.level.0 (absent_from c.args.f.0 (all_frames (cpus_in a)) fresh) c.moves-3.ensures h.untils);
    }
