-- A text is escaped byte by byte.
use Rattle.std.proofs.Common.{◌≡◌, ℕ, ◌+◌, ◌<◌, List, [], ◌∷◌, ◌++◌, length, get_or, take, true, refl, append_assoc, arith}
use Rattle.std.proofs.lemmas.List.{take_more}
use Rattle.std.specs.List.{list_all}
use Rattle.std.proofs.lemmas.List.Folds.{list_all-append}
use Rattle.wdf_page.specs.Escaped.{entity_of, escaped, has_only_entities, is_inert}

pub escaped-append : (xs ys : List ℕ) → escaped (xs ++ ys) ≡ escaped xs ++ escaped ys
escaped-append [] ys = refl
escaped-append (x ∷ xs) ys = grind (arith, append_assoc, escaped-append xs ys)

-- one byte more
pub escaped_more : (xs : List ℕ) (i d : ℕ) → i < length xs → escaped (take (i + 1) xs) ≡ escaped (take i xs) ++ entity_of (get_or xs i d)
escaped_more xs i d h = grind (arith, take_more xs i d h, escaped-append (take i xs) (get_or xs i d ∷ []))

-- no byte of an entity, nor one without an entity, is one of the marks that end a text or an attribute
entity_inert : (b : ℕ) → list_all is_inert (entity_of b) ≡ true
entity_inert b = grind arith

-- escaped text has none of them
pub escaped_inert : (xs : List ℕ) → list_all is_inert (escaped xs) ≡ true
escaped_inert [] = refl
escaped_inert (x ∷ xs) = grind (arith, list_all-append is_inert (entity_of x) (escaped xs), entity_inert x, escaped_inert xs)

-- after an entity, or a byte without one, the same has to hold of what is left
entity_first : (b : ℕ) (ys : List ℕ) → has_only_entities ys ≡ true → has_only_entities (entity_of b ++ ys) ≡ true
entity_first b ys h = grind arith

-- each `&` of it begins an entity
pub only_entities : (xs : List ℕ) → has_only_entities (escaped xs) ≡ true
only_entities [] = refl
only_entities (x ∷ xs) = entity_first x (escaped xs) (only_entities xs)
