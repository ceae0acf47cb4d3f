-- What was noted stays right.
use Rattle.wdf_tree.specs.Turns.{is_turn}
use Rattle.wdf_tree.proofs.Turns.{noted_more, stays_right}
use Rattle.wdf_tree.proofs.tree.turns.note_around.Goals as goal

pub returns-clause-noted : goal.returns-clause-noted
returns-clause-noted c =
    let test = is_turn c.args.nodes.now c.args.waiting.now.lists in
    noted_more test _ _ _ (noted_more test _ _ _ c.note_turn.ensures.noted c.note_if_any.ensures.noted) c.note_children.ensures.noted

pub returns-clause-own : goal.returns-clause-own
returns-clause-own c = λ there.
    let test = is_turn c.args.nodes.now c.args.waiting.now.lists in
    stays_right test _ _ _ c.note_children.ensures.noted (stays_right test _ _ _ c.note_if_any.ensures.noted (c.note_turn.ensures.own there))
