use Rattle.std.proofs.Common.{◌≡◌, ◌<◌, true, length, refl, sym, ap, ◌∙◌, arith}
use Rattle.wdf_base.specs.Lives.{is_live}
use Rattle.wdf_model.specs.Tables.{entry}
use Rattle.wdf_model.specs.declared.entries.Node.{Node}
use Rattle.wdf_model.specs.parts.Tree.{Tree, gone, life_of}
use Rattle.wdf_tree.proofs.Counting.{counted_by_write}
use Rattle.wdf_tree.proofs.EndsKept.{ends_by_ask}
use Rattle.wdf_tree.proofs.Kept.{kept_by_write, live_stands, read_there}
use Rattle.wdf_tree.proofs.Leaving.{leaving_by_ask}
use Rattle.wdf_tree.proofs.Turns.{turns_by_ask}
use Rattle.wdf_tree.proofs.tree.Tree.ask_one.Goals as goal

pub invariant_of-self : goal.invariant_of-self
invariant_of-self c =
    let there : c.args.o.0 < length c.self.inside.nodes = let e = ap (λ (t : Tree). length t.nodes) c.self.view_is in omega arith in
    let read : (entry gone c.self.inside.nodes c.args.o.0).life ≡ c.at_mut.result.now.life
    = ap (λ (n : Node). n.life) (sym c.at_mut.ensures.value) in
    let live : is_live c.life.result ≡ true = sym c.is_live.ensures ∙ c.if-is_live.true in
    let whose : c.at_mut.result.now.life ≡ c.life.result = sym read ∙ ap (λ (t : Tree). life_of t c.args.o.0) c.self.view_is ∙ sym c.life.ensures in
    let stays = live_stands c.at_mut.result.now.life (rw whose live) in
    let was = read_there gone c.self.inside.nodes c.args.o.0 c.at_mut.result.now there c.at_mut.ensures.value in
    record {
      kept = kept_by_write _ c.at_mut.result.now _ c.self.invariant.kept there was (record { kind = refl; parent = refl; gone = sym stays.gone }) (sym stays.waits);
      leaving = rw c.put.ensures (leaving_by_ask _ _ c.self.invariant.leaving c.self.invariant.kept.few there (ap is_live read ∙ stays.live) refl);
      turns = turns_by_ask _ _ c.self.invariant.turns c.self.invariant.kept.waiting_kin c.self.invariant.kept.few there
          (record { noted = c.note_around.ensures.noted; own = c.note_around.ensures.own; children = c.note_around.ensures.children });
      ends = ends_by_ask _ _ c.self.invariant.ends there (ap is_live read ∙ stays.live) refl;
      counted = counted_by_write _ c.at_mut.result.now _ c.self.invariant.counted there was (record { kind = refl; parent = refl; gone = sym stays.gone });
    }
