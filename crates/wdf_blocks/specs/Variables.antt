-- The variables of a callback.
use Rattle.std.specs.Prelude.{ℕ, suc, cond, List, [], ◌∷◌, ◌++◌, drop, Option, Some, None, position}
use Rattle.std.specs.List.{list_any}
use Rattle.std.specs.Str.{bytes_eq}
use Rattle.wdf_scene.specs.declared.line.NumberedLine.{NumberedLine}
use Rattle.wdf_scene.specs.declared.scene.Scene.{Scene}
use Rattle.wdf_blocks.specs.declared.placed.Placed.{Placed}
use Rattle.wdf_blocks.specs.Blocks.{depth_after, ends_block}
use Rattle.wdf_blocks.specs.Forms.{assigned_name}

-- the names with one more, if it is none of them
abbrev pub with_name : List (List ℕ) → List ℕ → List (List ℕ)
with_name names n = cond (list_any (bytes_eq n) names) names (names ++ n ∷ [])

abbrev pub with_assigned : List (List ℕ) → Option (List ℕ) → List (List ℕ)
with_assigned names None = names
with_assigned names (Some n) = with_name names n

-- the names, and after them those that these lines assign before the end of the block
unfoldable pub assigned_from : List (List ℕ) → ℕ → List NumberedLine → List (List ℕ)
assigned_from names depth [] = names
assigned_from names depth (l ∷ ls) =
    cond (ends_block depth l.form) names (assigned_from (with_assigned names (assigned_name l.form)) (depth_after depth l.form) ls)

-- the variables of the callback that line k begins, in the order in which they are first assigned
unfoldable pub variables : Scene → ℕ → List (List ℕ)
variables scene k = assigned_from [] 0 (drop (suc k) scene.lines)

-- the variables of the callback that this line begins, if there is one
unfoldable pub variables_in : Scene → Option ℕ → List (List ℕ)
variables_in scene None = []
variables_in scene (Some k) = variables scene k

-- the variables of the callback in which a line is
unfoldable pub variables_at : Scene → Placed → List (List ℕ)
variables_at scene p = variables_in scene p.stand.callback

-- the number of a variable
unfoldable pub variable_number : List (List ℕ) → List ℕ → Option ℕ
variable_number variables n = position (bytes_eq n) variables
