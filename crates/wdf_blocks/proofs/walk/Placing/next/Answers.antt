use Rattle.std.proofs.Common.{sym, ◌∙◌, ◌≤◌, length, arith}
use Rattle.wdf_blocks.proofs.Walks.{placed_end, walk_next, within_walk}
use Rattle.wdf_blocks.proofs.walk.Placing.next.Goals as goal

pub returns-then-self-lines : goal.returns-then-self-lines
returns-then-self-lines c =
    let past : length c.self.inside.scene.now.lines ≤ c.self.inside.at = rw (← c.as_slice-lines.ensures.value) c.if-self-lines.true in
    sym c.self.view_is ∙ placed_end _ _ _ _ past

pub invariant_of-self : goal.invariant_of-self
invariant_of-self c =
    within_walk _ _ _ _ _ _ _ _ _ c.self.invariant c.as_slice-lines.ensures.value c.if-self-lines.false (omega arith) c.opened_by-self-inside.ensures c.counted-self-inside.ensures

pub returns : goal.returns
returns c =
    walk_next _ _ _ _ _ _ _ _ _ _ c.self.view_is c.as_slice-lines.ensures.value c.if-self-lines.false c.index-lines-self.is c.len.ensures.value c.opened_by-self-inside.ensures c.counted-self-inside.ensures
