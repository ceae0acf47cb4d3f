-- How declarations are found by their names.
use Rattle.std.specs.Prelude.{◌≡◌, ℕ, suc, Bool, false, cond, List, [], ◌∷◌, Option, Some, None, slice_get}
use Rattle.std.specs.Str.{bytes_eq}
use Rattle.indexmap.specs.IndexMap.{IndexMap, get}
use Rattle.wdf_blocks.specs.declared.declaration.Declaration.{Declaration}
use Rattle.wdf_blocks.specs.Declarations.{has_name}

-- the place of the first item that passes the test, where the first one has place k
abbrev pub place_from : {T : Type 0} → (T → Bool) → ℕ → List T → Option ℕ
place_from test k [] = None
place_from test k (x ∷ xs) = cond (test x) (Some k) (place_from test (suc k) xs)

-- the place, or else this one where the new item passes
abbrev pub or_last : Option ℕ → Bool → ℕ → Option ℕ
or_last None passes at = cond passes (Some at) None
or_last (Some k) passes at = Some k

-- the item at this place passes the test
abbrev pub passes_at : {T : Type 0} → (T → Bool) → List T → ℕ → Bool
passes_at test xs k = elim (slice_get xs k) as (λ _. Bool) [ None ↦ false | Some x ↦ test x ]

-- at each name the map has the place of its first declaration
pub record IsIndexed {S : Type 0} (m : IndexMap (List ℕ) ℕ S) (names : List Declaration) : Type 0 where
  pub first : (q : List ℕ) → get bytes_eq m q ≡ place_from (has_name q) 0 names
