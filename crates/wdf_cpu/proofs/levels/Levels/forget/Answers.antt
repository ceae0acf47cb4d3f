-- The frame holds none, and the others hold as many.
use Rattle.std.proofs.Common.{arith}
use Rattle.wdf_cpu.proofs.HeldLevels.{counts_forget}
use Rattle.wdf_cpu.proofs.levels.Levels.forget.Goals as goal

pub invariant_of-self : goal.invariant_of-self
invariant_of-self c =
    let a = c.self.inside in
    let h = c.self.invariant in
    record {
      room = omega arith;
      counts_room = omega arith;
      counts = rw (c.drop_levels.ensures.items, c.put_at.ensures.entries) (counts_forget a.held.items a.counts.items c.args.f.0 h.counts);
    }
