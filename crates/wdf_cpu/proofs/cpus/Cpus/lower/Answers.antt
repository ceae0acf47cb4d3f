-- The level of the frame is the greatest of those that are left.
use Rattle.std.proofs.Common.{◌≡◌, max, fold, arith}
use Rattle.wdf_model.specs.parts.Cpus.{less_one, running}
use Rattle.wdf_cpu.specs.Kept.{cpus_in}
use Rattle.wdf_cpu.specs.Levels.{held_by}
use Rattle.wdf_cpu.proofs.Keeping.{kept_lower}
use Rattle.wdf_cpu.proofs.cpus.Cpus.lower.Goals as goal

pub invariant_of-self : goal.invariant_of-self
invariant_of-self c =
    let a = c.self.inside in
    let h = c.self.invariant in
    let peak : c.peak.result.0 ≡ fold max (running (cpus_in a) c.args.f.0).level.0 (held_by (less_one c.args.f.0 c.args.level.0 a.levels) c.args.f.0) =
    rw (c.lower.ensures, c.get.ensures.value) at c.peak.ensures in
    record {
      live_room = h.live_room;
      peaks_room = omega arith;
      parked_room = h.parked_room;
      kept = rw (c.lower.ensures, c.put_at.ensures.entries)
          (kept_lower (cpus_in a) a.live.items a.peaks.items a.on a.waits c.args.f.0 c.args.level.0 c.peak.result.0 peak h.kept);
      parked_for = rw c.lower.ensures (record { counted = h.parked_for.counted });
      untils = rw c.lower.ensures (record { counts = h.untils.counts; many = h.untils.many });
    }
