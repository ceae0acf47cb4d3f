use Rattle.std.proofs.Common.{◌+◌, ◌-◌, ◌/◌, ◌<◌, ◌≤◌, length, slice_set, subst, sym, arith}
use Rattle.wdf_sets.specs.Counted.{AreCounted, AreNoted, has_some}
use Rattle.wdf_sets.proofs.Changes.{IsChange, grows, shrinks}
use Rattle.wdf_sets.proofs.Noted.{noted_put}
use Rattle.wdf_sets.proofs.id_set.IdSet.put.Goals as goal

pub overflow_add-count : goal.overflow_add-count
overflow_add-count c =
    let set = c.self.inside in
    let count = c.index_mut-count.result.now in
    let there : c.args.id < length set.bits = subst (λ bits. c.args.id < length bits) (sym c.self.view_is) c.requires in
    let change : IsChange set.bits set.counts.items set.len c.args.id count c.get.result c.args.on
    = record { counted = c.self.invariant.0; there = there; read = c.index_mut-count.ensures.value; bit = c.get.ensures; differs = c.if-get-on.false } in
    let few : count ≤ 512 = (grows set.bits set.counts.items set.len c.args.id count c.get.result c.args.on change c.if-on.true).0 in
    omega arith

pub invariant_of-self : goal.invariant_of-self
invariant_of-self c =
    let set = c.self.inside in
    let count = c.index_mut-count.result.now in
    let there : c.args.id < length set.bits = subst (λ bits. c.args.id < length bits) (sym c.self.view_is) c.requires in
    let change : IsChange set.bits set.counts.items set.len c.args.id count c.get.result c.args.on
    = record { counted = c.self.invariant.0; there = there; read = c.index_mut-count.ensures.value; bit = c.get.ensures; differs = c.if-get-on.false } in (
      subst (λ bits. AreCounted bits (slice_set set.counts.items (c.args.id / 512) (count + 1)) (set.len + 1)) (sym c.set.ensures)
          (grows set.bits set.counts.items set.len c.args.id count c.get.result c.args.on change c.if-on.true).1,
      subst (λ words. AreNoted c.set.new.self words) (sym c.note_word.ensures)
          (subst (λ bits. AreNoted bits (slice_set set.words (c.args.id / 64) (has_some (c.args.id / 64) bits))) (sym c.set.ensures) (noted_put set.bits set.words c.args.id c.args.on c.self.invariant.1 there)),
    )

pub overflow_sub-count : goal.overflow_sub-count
overflow_sub-count c =
    let set = c.self.inside in
    let count = c.index_mut-count.result.now in
    let there : c.args.id < length set.bits = subst (λ bits. c.args.id < length bits) (sym c.self.view_is) c.requires in
    let change : IsChange set.bits set.counts.items set.len c.args.id count c.get.result c.args.on
    = record { counted = c.self.invariant.0; there = there; read = c.index_mut-count.ensures.value; bit = c.get.ensures; differs = c.if-get-on.false } in
    (shrinks set.bits set.counts.items set.len c.args.id count c.get.result c.args.on change c.if-on.false).0

pub invariant_of-self-else-on : goal.invariant_of-self-else-on
invariant_of-self-else-on c =
    let set = c.self.inside in
    let count = c.index_mut-count.result.now in
    let there : c.args.id < length set.bits = subst (λ bits. c.args.id < length bits) (sym c.self.view_is) c.requires in
    let change : IsChange set.bits set.counts.items set.len c.args.id count c.get.result c.args.on
    = record { counted = c.self.invariant.0; there = there; read = c.index_mut-count.ensures.value; bit = c.get.ensures; differs = c.if-get-on.false } in (
      subst (λ bits. AreCounted bits (slice_set set.counts.items (c.args.id / 512) (count - 1)) (set.len - 1)) (sym c.set.ensures)
          (shrinks set.bits set.counts.items set.len c.args.id count c.get.result c.args.on change c.if-on.false).1,
      subst (λ words. AreNoted c.set.new.self words) (sym c.note_word.ensures)
          (subst (λ bits. AreNoted bits (slice_set set.words (c.args.id / 64) (has_some (c.args.id / 64) bits))) (sym c.set.ensures) (noted_put set.bits set.words c.args.id c.args.on c.self.invariant.1 there)),
    )
