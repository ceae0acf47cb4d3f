-- One place more is linked.
use Rattle.std.proofs.Common.{◌-◌, ◌%◌, slice_index, refl, arith}
use Rattle.std.proofs.lemmas.List.{get_or_read, length-set}
use Rattle.wdf_plan_index.proofs.Linking.{linked_before}
use Rattle.wdf_plan_index.proofs.places.chains_of.Goals as goal

pub link-preserved : goal.link-preserved
link-preserved c = record {
  within = omega arith;
  some = simp length-set c.link.invariant.some;
  as_many = simp length-set c.link.invariant.as_many;
  linked = linked_before c.args.numbers.now c.link.heads.items c.link.nexts.items c.len.result c.link.at (c.link.at - 1) c.index.result.now
      c.link.invariant.linked (omega arith) c.link.invariant.within refl (cc) c.link.invariant.as_many c.link.invariant.some
      (get_or_read c.link.heads.items (slice_index c.args.numbers.now (c.link.at - 1) % c.len.result) c.index.result.now (omega arith) c.index.ensures 0);
}
