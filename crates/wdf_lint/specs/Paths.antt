-- Paths that share their beginnings, and which of two paths comes first. (own)
use Rattle.std.specs.Prelude.{◌≡◌, ◌⊎◌, ◌<◌, ℕ, Bool, true, ◌==◌, nat_lt, ◌&&◌, ◌||◌, List, [], ◌∷◌, ◌++◌, fold, length, Some, slice_get, slice_index_or}
use Rattle.wdf_lint.specs.declared.paths.PathEnd.{PathEnd}
use Rattle.wdf_lint.specs.Findings.{is_less}

-- a path of the list, with a line more
abbrev pub longer : List (List ℕ) → ℕ → ℕ → List ℕ
longer paths before line = slice_index_or paths before [] ++ line ∷ []

-- the paths with one more, which goes on one of them
abbrev pub grow : List (List ℕ) → PathEnd → List (List ℕ)
grow paths e = paths ++ longer paths e.before e.line ∷ []

-- the paths that their ends give
unfoldable pub paths_of : List PathEnd → List (List ℕ)
paths_of ends = fold grow [] ends

-- the shorter of two paths comes first, of two of one length the one with lesser lines
abbrev pub goes_before : List ℕ → List ℕ → Bool
goes_before p q = nat_lt (length p) (length q) || (length p == length q && is_less p q)

-- a path that another doesn't go before
abbrev pub NoLater : List ℕ → List ℕ → Type 0
NoLater p q = (p ≡ q) ⊎ (goes_before p q ≡ true)

-- each path but the first goes on one before it
abbrev pub AreEnds : List PathEnd → Type 0
AreEnds ends = (0 < length ends) × ((n : ℕ) (e : PathEnd) → slice_get ends n ≡ Some e → e.before ≡ 0 ⊎ e.before < n)
