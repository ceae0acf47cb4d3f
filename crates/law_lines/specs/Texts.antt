-- Lines put together.
use Rattle.std.specs.Prelude.{ℕ, List, [], ◌∷◌, ◌++◌, codes}

-- texts one after the other, each with its line feed
abbrev pub as_lines : List (List ℕ) → List ℕ
as_lines [] = []
as_lines (text ∷ texts) = (text ++ codes "\n") ++ as_lines texts
