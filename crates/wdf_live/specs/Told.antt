-- The text of the items that were taken from the pipe.
use Rattle.std.specs.Prelude.{ℕ, ◌+◌, List, [], ◌∷◌, ◌++◌, codes}
use Rattle.wdf_base.specs.declared.plan.Plan.{Plan}
use Rattle.wdf_lines.specs.Lines.{line_text}
use Rattle.wdf_pipe.specs.declared.item.Item.{Item}
use Rattle.wdf_pipe.specs.declared.item.Item.TheVariants.{Numbered, End}

-- the line of an item, with its line feed; the end mark has none
abbrev pub item_line : Plan → Item → List ℕ
item_line plan (Numbered number event) = line_text plan number event ++ codes "\n"
item_line plan End = []

-- their lines, one after the other
abbrev pub item_lines : Plan → List Item → List ℕ
item_lines plan [] = []
item_lines plan (item ∷ items) = item_line plan item ++ item_lines plan items

-- how many lines these are
abbrev pub count_of : Item → ℕ
count_of (Numbered number event) = 1
count_of End = 0

abbrev pub lines_in : List Item → ℕ
lines_in [] = 0
lines_in (item ∷ items) = count_of item + lines_in items
