use Rattle.std.proofs.Common.{◌≡◌, true, refl, sym, ap, ◌∙◌}
use Rattle.wdf_base.specs.Lives.{is_asked}
use Rattle.wdf_model.specs.Tables.{entry}
use Rattle.wdf_model.specs.declared.entries.Node.{Node}
use Rattle.wdf_model.specs.parts.Tree.{Tree, gone, life_of, parent_of}
use Rattle.wdf_tree.proofs.Counting.{counted_by_write}
use Rattle.wdf_tree.proofs.EndsKept.{ends_by_set}
use Rattle.wdf_tree.proofs.Kept.{asked_stands, kept_by_cleanup, read_there, there_if_asked}
use Rattle.wdf_tree.proofs.Leaving.{leaving_by_cleanup}
use Rattle.wdf_tree.proofs.Turns.{turns_after_cleanup}
use Rattle.wdf_tree.proofs.tree.Tree.clean.Goals as goal

pub invariant_of-self : goal.invariant_of-self
invariant_of-self c =
    let asked : is_asked (entry gone c.self.inside.nodes c.args.o.0).life ≡ true = ap (λ (t : Tree). is_asked (life_of t c.args.o.0)) c.self.view_is ∙ c.requires.asked in
    let there = there_if_asked c.self.inside.nodes c.args.o.0 asked in
    let read = ap (λ (n : Node). is_asked n.life) (sym c.at_mut.ensures.value) in
    let stays = asked_stands c.at_mut.result.now.life (sym read ∙ asked) in
    let was = read_there gone c.self.inside.nodes c.args.o.0 c.at_mut.result.now there c.at_mut.ensures.value in
    record {
      kept = rw c.unlink-list.ensures.gone
          (kept_by_cleanup _ c.at_mut.result.now _ c.self.invariant.kept there was (record { kind = refl; parent = refl; gone = sym stays }) refl);
      leaving = rw (c.put.ensures, c.put-2.ensures) (leaving_by_cleanup _ _ c.self.invariant.leaving c.self.invariant.kept.few there refl);
      turns = turns_after_cleanup _ _ _ _ _ c.unlink-list.ensures.gone c.self.invariant.turns c.self.invariant.kept.waiting_kin c.self.invariant.kept.few there refl
          (c.parent-parent.ensures ∙ sym (ap (λ (t : Tree). parent_of t c.args.o.0) c.self.view_is)) c.back-last.ensures
          (record {
            at = record { noted = c.note_cleaned.ensures.noted; own = c.note_cleaned.ensures.own; children = c.note_cleaned.ensures.children };
            parent_right = c.note_cleaned.ensures.parent;
            sibling = c.note_cleaned.ensures.sibling;
          });
      ends = ends_by_set _ _ c.self.invariant.ends there c.note_end.ensures.noted c.note_end.ensures.own;
      counted = counted_by_write _ c.at_mut.result.now _ c.self.invariant.counted there was (record { kind = refl; parent = refl; gone = sym stays });
    }
