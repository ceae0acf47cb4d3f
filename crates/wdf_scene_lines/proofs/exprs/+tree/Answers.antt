use Rattle.std.proofs.Common.{◌≡◌, refl, sym, arith, false, true}
use Rattle.wdf_scene_lines.specs.Reading.{read_tree, is_open, is_close, first_token}
use Rattle.wdf_scene_lines.proofs.TreeBuilding.{pair_read, read_tree_open, read_tree_none, read_tree_leaf}
use Rattle.wdf_scene_lines.proofs.exprs.+tree.Goals as goal
use Rattle.wdf_scene_lines.proofs.exprs.+tree.Goals.{read_tree-else-depth-gt0-via-then-depth-gt0+else-is_open, read_tree-else-depth-gt0-via-else-depth-gt0}

pub read_pair-returns-clause-read : goal.read_pair-returns-clause-read
read_pair-returns-clause-read t c =
    let closes : is_close (first_token c.read_tree-2.new.cursor) ≡ true = cc in
    pair_read (read_tree c.args.depth) (read_tree c.args.depth c.args.cursor.now) (read_tree c.args.depth c.take_operator.new.self)
    c.read_tree.new.cursor c.take_operator.new.self c.read_tree-2.new.cursor c.take_close.new.self
    c.args.builder.now c.read_tree.new.builder c.read_tree-2.new.builder c.expr.new.self
    c.in-Some.left c.in-Some-2.right c.in_ok-expr.field-0 c.in-Some-take_operator.operator
    (rw c.in-Some.is at c.in_ok-left.ensures.read) (sym c.in-Some-take_operator.ensures.value) c.take_operator.ensures.rest
    refl (rw c.in-Some-2.is at c.in_ok-right.ensures.read) closes c.take_close.ensures.rest
    c.in_ok-expr.ensures.number c.in_ok-expr.ensures.added

pub read_tree-returns-then-is_open-clause-read : goal.read_tree-returns-then-is_open-clause-read
read_tree-returns-then-is_open-clause-read t c =
    let o : is_open (first_token c.args.cursor.now) ≡ true = cc in
    rw (read_tree_open c.args.depth c.args.cursor.now c.if-depth-gt0.true o, ← c.take-open.ensures.rest) c.read_pair.ensures.read

pub read_tree-returns-else-depth-gt0-clause-read : goal.read_tree-returns-else-depth-gt0-clause-read
read_tree-returns-else-depth-gt0-clause-read t c =
    elim c.else-depth-gt0.branch [
      | read_tree-else-depth-gt0-via-then-depth-gt0+else-is_open w ↦
          let o : is_open (first_token c.args.cursor.now) ≡ false = cc in
          rw (read_tree_leaf c.args.depth c.args.cursor.now o) c.read_leaf.ensures.read
      | read_tree-else-depth-gt0-via-else-depth-gt0 w ↦
          let e : c.args.depth ≡ 0 = omega arith in
          rw (read_tree_none c.args.depth c.args.cursor.now e) c.read_leaf.ensures.read
    ]
