-- What was noted stays right.
use Rattle.wdf_tree.specs.Turns.{is_end}
use Rattle.wdf_tree.proofs.Turns.{noted_more, stays_right}
use Rattle.wdf_tree.proofs.tree.ends.note_ended.Goals as goal

pub returns-clause-noted : goal.returns-clause-noted
returns-clause-noted c = noted_more (is_end c.args.nodes.now c.args.children.now.lists) _ _ _ c.note_end.ensures.noted c.note_end-2.ensures.noted

pub returns-clause-own : goal.returns-clause-own
returns-clause-own c = λ there. stays_right (is_end c.args.nodes.now c.args.children.now.lists) _ _ _ c.note_end-2.ensures.noted (c.note_end.ensures.own there)
