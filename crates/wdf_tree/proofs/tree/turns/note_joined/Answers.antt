-- What was noted stays right.
use Rattle.wdf_tree.specs.Turns.{is_turn}
use Rattle.wdf_tree.proofs.Turns.{noted_more, stays_right}
use Rattle.wdf_tree.proofs.tree.turns.note_joined.Goals as goal

pub returns-clause-noted : goal.returns-clause-noted
returns-clause-noted c = noted_more (is_turn c.args.nodes.now c.args.waiting.now.lists) _ _ _ c.note_turn.ensures.noted c.note_if_any.ensures.noted

pub returns-clause-parent : goal.returns-clause-parent
returns-clause-parent c = λ there. stays_right (is_turn c.args.nodes.now c.args.waiting.now.lists) _ _ _ c.note_if_any.ensures.noted (c.note_turn.ensures.own there)
