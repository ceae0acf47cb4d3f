use Rattle.std.proofs.Common.{◌*◌, ◌+◌}
use Rattle.wdf_scene_lines.proofs.line_tokens.+print.Given as goal

abbrev pub decreases-add_expr : goal.decreases-add_expr
decreases-add_expr l = 2 * l.depth + 1

abbrev pub decreases-add_node : goal.decreases-add_node
decreases-add_node l = 2 * l.depth + 2
