use Rattle.std.proofs.Common.{ℕ, ◌≡◌, List, length, refl, ap, sym, ◌∙◌, arith}
use Rattle.std.specs.Prelude.{slice_set}
use Rattle.wdf_model.specs.Tables.{put}
use Rattle.wdf_model.specs.declared.entries.Node.{Node}
use Rattle.wdf_model.specs.parts.Tree.{Tree, destroy, gone, parent_of}
use Rattle.wdf_model.proofs.Maps.{as_long, put_within}
use Rattle.wdf_tree.proofs.Counting.{counted_by_end}
use Rattle.wdf_tree.proofs.EndsKept.{ends_by_end}
use Rattle.wdf_tree.proofs.Kept.{devices_as_many, few_counted, kept_by_end, may_end, read_there, there_if_cleaned}
use Rattle.wdf_tree.proofs.Leaving.{leaving_by_end}
use Rattle.wdf_tree.proofs.Turns.{turns_by_end}
use Rattle.wdf_tree.proofs.tree.Tree.destroy.Goals as goal

-- an object is destroyed
destroyed : (T U : Tree) (o : ℕ) (ns : List Node) → T ≡ U → ns ≡ put gone T.nodes o gone → record T { nodes = ns } ≡ destroy U o
destroyed T U o ns e is = ap (λ (ms : List Node). record T { nodes = ms }) is ∙ ap (λ (V : Tree). destroy V o) e

pub overflow_sub-self : goal.overflow_sub-self
overflow_sub-self c =
    let may = may_end _ _ _ c.self.view_is c.requires.may in
    let there = there_if_cleaned c.self.inside.nodes c.args.o.0 may.cleaned in
    let read = read_there gone c.self.inside.nodes c.args.o.0 c.get.result.now there c.get.ensures.value in
    rw c.counted.ensures (few_counted _ c.get.result.now c.self.invariant.kept there read)

pub index_mut-requires : goal.index_mut-requires
index_mut-requires c =
    let may = may_end _ _ _ c.self.view_is c.requires.may in
    let there = there_if_cleaned c.self.inside.nodes c.args.o.0 may.cleaned in
    let e = devices_as_many c.self.invariant.kept in omega arith

pub note_ended-requires : goal.note_ended-requires
note_ended-requires c =
    let may = may_end _ _ _ c.self.view_is c.requires.may in
    let there = there_if_cleaned c.self.inside.nodes c.args.o.0 may.cleaned in
    let as_many : length c.remove.new.self ≡ length c.self.inside.nodes = ap length (c.remove.ensures ∙ put_within gone c.self.inside.nodes c.args.o.0 gone there) ∙ as_long c.self.inside.nodes c.args.o.0 gone in
    record { room = omega (arith, c.self.invariant.kept.few, c.self.invariant.ends.room) }

pub invariant_of-self : goal.invariant_of-self
invariant_of-self c =
    let may = may_end _ _ _ c.self.view_is c.requires.may in
    let there = there_if_cleaned c.self.inside.nodes c.args.o.0 may.cleaned in
    let read = read_there gone c.self.inside.nodes c.args.o.0 c.get.result.now there c.get.ensures.value in
    let few = few_counted _ c.get.result.now c.self.invariant.kept there read in
    let ended : c.remove.new.self ≡ slice_set c.self.inside.nodes c.args.o.0 gone = c.remove.ensures ∙ put_within gone c.self.inside.nodes c.args.o.0 gone there in
    rw ended (record {
      kept = rw c.unlink-list.ensures.gone (kept_by_end c.args.o.0 _ c.get.result.now gone _ c.self.invariant.kept may read refl refl (rw c.counted.ensures (omega arith)));
      counted = rw c.put-2.ensures (counted_by_end c.args.o.0 gone c.self.invariant.counted c.self.invariant.kept.few there refl);
      leaving = rw c.put.ensures (leaving_by_end c.args.o.0 gone c.self.invariant.leaving c.self.invariant.kept.few there may.cleaned refl);
      turns = turns_by_end c.args.o.0 gone c.self.invariant.turns there may refl;
      ends = ends_by_end c.args.o.0 _ gone _ c.unlink-list.ensures.gone c.self.invariant.ends c.self.invariant.kept.kin there refl
          (c.parent-parent.ensures ∙ sym (ap (λ (t : Tree). parent_of t c.args.o.0) c.self.view_is))
          (rw ended at c.note_ended.ensures.noted) (rw ended at c.note_ended.ensures.own) (rw ended at c.note_ended.ensures.parent);
    })

pub returns-clause-done : goal.returns-clause-done
returns-clause-done c = destroyed _ _ c.args.o.0 c.remove.new.self c.self.view_is c.remove.ensures

pub returns-clause-size : goal.returns-clause-size
returns-clause-size c =
    let may = may_end _ _ _ c.self.view_is c.requires.may in
    let there = there_if_cleaned c.self.inside.nodes c.args.o.0 may.cleaned in
    ap length (c.remove.ensures ∙ put_within gone c.self.inside.nodes c.args.o.0 gone there) ∙ as_long c.self.inside.nodes c.args.o.0 gone ∙ ap (λ (t : Tree). length t.nodes) c.self.view_is
