-- The frame holds one less, if it held the level.
use Rattle.std.proofs.Common.{◌≡◌, ◌-◌, length, ap, ◌∙◌, arith}
use Rattle.wdf_model.specs.parts.Cpus.{less_one}
use Rattle.wdf_cpu.specs.Levels.{held_by}
use Rattle.wdf_cpu.proofs.HeldLevels.{counts_lower, one_taken}
use Rattle.wdf_cpu.proofs.levels.Levels.lower.Goals as goal

pub invariant_of-self : goal.invariant_of-self
invariant_of-self c =
    let a = c.self.inside in
    let h = c.self.invariant in
    let left : c.count-count.result - c.from.result ≡ length (held_by (less_one c.args.f.0 c.args.level.0 a.held.items) c.args.f.0) =
    one_taken c.count-count.result c.from.result _ c.drop_level-dropped.result c.from.ensures c.drop_level-dropped.ensures.less
    ∙ ap (λ ls. length (held_by ls c.args.f.0)) c.drop_level-dropped.ensures.items in
    record {
      room = omega arith;
      counts_room = omega arith;
      counts = rw (c.drop_level-dropped.ensures.items, c.put_at.ensures.entries) (counts_lower a.held.items a.counts.items c.args.f.0 c.args.level.0 (c.count-count.result - c.from.result) left h.counts);
    }
