-- The frame holds one more, and there are no more than levels.
use Rattle.std.proofs.Common.{◌≡◌, length, ap, sym, ◌∙◌, arith}
use Rattle.wdf_cpu.specs.Levels.{held_by}
use Rattle.wdf_cpu.proofs.HeldLevels.{counts_raise, few_held}
use Rattle.wdf_cpu.proofs.levels.Levels.raise.Goals as goal

pub overflow_add-count : goal.overflow_add-count
overflow_add-count c =
    let few = few_held c.args.self.now c.args.f.0 in
    let count = c.count-count.ensures in
    let room = c.requires.room in
    omega arith

pub invariant_of-self : goal.invariant_of-self
invariant_of-self c =
    let a = c.self.inside in
    let h = c.self.invariant in
    let count : c.count-count.result ≡ length (held_by a.held.items c.args.f.0) = c.count-count.ensures ∙ ap (λ ls. length (held_by ls c.args.f.0)) (sym c.self.view_is) in
    record {
      room = omega arith;
      counts_room = omega arith;
      counts = rw (c.push_front_reserved.ensures.items, c.put_at.ensures.entries, count) (counts_raise a.held.items a.counts.items c.args.f.0 c.args.level.0 h.counts);
    }
