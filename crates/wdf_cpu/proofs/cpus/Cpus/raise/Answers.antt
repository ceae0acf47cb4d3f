-- The level of the frame is the greater of the two.
use Rattle.std.proofs.Common.{arith}
use Rattle.wdf_cpu.specs.Kept.{cpus_in}
use Rattle.wdf_cpu.proofs.Keeping.{kept_raise}
use Rattle.wdf_cpu.proofs.cpus.Cpus.raise.Goals as goal

pub invariant_of-self : goal.invariant_of-self
invariant_of-self c =
    let a = c.self.inside in
    let h = c.self.invariant in
    record {
      live_room = h.live_room;
      peaks_room = omega arith;
      parked_room = h.parked_room;
      kept = rw (c.raise.ensures, c.put_at.ensures.entries, c.max.ensures, c.entry_at-peak.ensures, c.deref.ensures.value)
          (kept_raise (cpus_in a) a.live.items a.peaks.items a.on a.waits c.args.f.0 c.args.level.0 h.kept);
      parked_for = rw c.raise.ensures (record { counted = h.parked_for.counted });
      untils = rw c.raise.ensures (record { counts = h.untils.counts; many = h.untils.many });
    }
