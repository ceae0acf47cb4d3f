-- Patterns of the lines of a trace, by words. (own)
use Rattle.std.specs.Prelude.{if◌then◌else◌, ℕ, ◌-◌, ◌&&◌, Bool, true, false, List, [], ◌∷◌, bytes_eq, codes, drop, length, nat_eq, take, Option, Some, None}
use Rattle.std.specs.List.{ends_with, starts_with}
use Rattle.wdf_base.specs.declared.plan.Plan.{Plan}
use Rattle.wdf_base.specs.declared.event.Event.{Event}
use Rattle.wdf_lines.specs.Lines.{line_text}
use Rattle.wdf_trace.specs.Reading.{words}

-- A word of a line is one that a pattern's word stands for: the same word, or where the pattern's ends in a star, any word that
-- begins with what is before the star. So a star alone stands for every word.
abbrev pub is_word : List ℕ → List ℕ → Bool
is_word word pattern =
    if ends_with nat_eq pattern (codes "*") then starts_with nat_eq word (take (length pattern - 1) pattern) else bytes_eq word pattern

-- there is a word, and it is one that a pattern's word stands for
abbrev pub is_there : Option (List ℕ) → List ℕ → Bool
is_there None pattern = false
is_there (Some word) pattern = is_word word pattern

-- the words begin with words that the pattern's stand for, one for each; more words may come after these
abbrev pub is_begun_by : List (List ℕ) → List (List ℕ) → Bool
is_begun_by [] ws = true
is_begun_by (p ∷ ps) [] = false
is_begun_by (p ∷ ps) (w ∷ ws) = is_word w p && is_begun_by ps ws

-- the words of an event's line after its number; whatever that is, it is the first word, and here it is 0
abbrev pub said : Plan → Event → List (List ℕ)
said plan e = drop 1 (words (line_text plan 0 e))

-- A pattern matches an event whose line begins so, but for its number.
unfoldable pub matches : Plan → List (List ℕ) → Event → Bool
matches plan pattern e = is_begun_by pattern (said plan e)
