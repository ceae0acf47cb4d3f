use Rattle.std.proofs.Common.{◌<◌, length, refl, ap, arith}
use Rattle.wdf_model.specs.parts.Tree.{Tree, gone}
use Rattle.wdf_tree.proofs.Counting.{counted_by_write}
use Rattle.wdf_tree.proofs.EndsKept.{ends_by_set}
use Rattle.wdf_tree.proofs.Kept.{kept_by_write, read_there}
use Rattle.wdf_tree.proofs.Leaving.{leaving_by_write}
use Rattle.wdf_tree.proofs.Turns.{turns_by_write}
use Rattle.wdf_tree.proofs.tree.Tree.reference.Goals as goal

pub invariant_of-self : goal.invariant_of-self
invariant_of-self c =
    let there : c.args.o.0 < length c.self.inside.nodes = let e = ap (λ (t : Tree). length t.nodes) c.self.view_is in omega arith in
    let read = read_there gone c.self.inside.nodes c.args.o.0 c.at_mut.result.now there c.at_mut.ensures.value in
    record {
      kept = kept_by_write _ c.at_mut.result.now _ c.self.invariant.kept there read (record { kind = refl; parent = refl; gone = refl }) refl;
      leaving = leaving_by_write _ c.at_mut.result.now _ c.self.invariant.leaving there read refl;
      turns = turns_by_write _ c.at_mut.result.now _ c.self.invariant.turns there read refl refl;
      ends = ends_by_set _ _ c.self.invariant.ends there c.note_end.ensures.noted c.note_end.ensures.own;
      counted = counted_by_write _ c.at_mut.result.now _ c.self.invariant.counted there read (record { kind = refl; parent = refl; gone = refl });
    }
