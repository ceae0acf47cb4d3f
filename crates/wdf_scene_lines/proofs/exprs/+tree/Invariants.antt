use Rattle.std.proofs.Common.{◌*◌, ◌+◌}
use Rattle.wdf_scene_lines.proofs.exprs.+tree.Given as goal

abbrev pub decreases-read_tree : goal.decreases-read_tree
decreases-read_tree l = 2 * l.depth + 1

abbrev pub decreases-read_pair : goal.decreases-read_pair
decreases-read_pair l = 2 * l.depth + 2
