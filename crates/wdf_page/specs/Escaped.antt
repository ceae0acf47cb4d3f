-- Text from outside, as a page shows it. (own)
use Rattle.std.specs.Prelude.{if◌then◌else◌, ℕ, nat_eq, ◌==◌, ◌++◌, ◌&&◌, ◌||◌, Bool, true, not, List, [], ◌∷◌, codes}
use Rattle.std.specs.List.{starts_with}

-- a byte as a page has it: its entity, where markup would take it for a mark
abbrev pub entity_of : ℕ → List ℕ
entity_of b =
    if b == 60 then codes "&lt;"
    else (if b == 62 then codes "&gt;"
    else (if b == 38 then codes "&amp;"
    else (if b == 34 then codes "&quot;"
    else (if b == 39 then codes "&#39;"
    else b ∷ []))))

-- a text as a page has it
abbrev pub escaped : List ℕ → List ℕ
escaped [] = []
escaped (b ∷ bytes) = entity_of b ++ escaped bytes

-- a byte that can't end a text or an attribute of a page: none of `<`, `>` and the two quotes
abbrev pub is_inert : ℕ → Bool
is_inert b = not ((((b == 60) || (b == 62)) || (b == 34)) || (b == 39))

-- the bytes begin with one of the five entities
abbrev pub begins_entity : List ℕ → Bool
begins_entity bytes =
    (((starts_with nat_eq bytes (codes "&lt;") || starts_with nat_eq bytes (codes "&gt;")) || starts_with nat_eq bytes (codes "&amp;"))
    || starts_with nat_eq bytes (codes "&quot;")) || starts_with nat_eq bytes (codes "&#39;")

-- each `&` among the bytes begins an entity
abbrev pub has_only_entities : List ℕ → Bool
has_only_entities [] = true
has_only_entities (b ∷ bytes) = (not (b == 38) || begins_entity (b ∷ bytes)) && has_only_entities bytes
