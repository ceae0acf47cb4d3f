use Rattle.std.proofs.Common.{arith, ◌<◌}
use Rattle.wdf_scene_lines.proofs.ExprTokens.{expr_past, expr_flat, expr_deep}
use Rattle.wdf_scene_lines.proofs.line_tokens.+print.Goals as goal

pub add_expr-returns-then-e-expr_len : goal.add_expr-returns-then-e-expr_len
add_expr-returns-then-e-expr_len t c = expr_past c.args.depth c.args.scene.now.exprs c.args.e c.args.tokens.now.items (omega arith)

pub add_expr-returns-then-depth-eq0 : goal.add_expr-returns-then-depth-eq0
add_expr-returns-then-depth-eq0 t c = rw (expr_flat c.args.depth c.args.scene.now.exprs c.args.e c.expr-node.result c.if-depth-eq0.true c.expr-node.ensures) c.add_leaf.ensures

pub add_expr-returns-else-depth-eq0 : goal.add_expr-returns-else-depth-eq0
add_expr-returns-else-depth-eq0 t c =
    let deep : 0 < c.args.depth = omega arith in
    rw (expr_deep c.args.depth c.args.scene.now.exprs c.args.e c.expr-node.result deep c.expr-node.ensures) c.add_node.ensures
