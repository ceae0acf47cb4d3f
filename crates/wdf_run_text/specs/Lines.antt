-- The lines of a trace, with their line feeds.
use Rattle.std.specs.Prelude.{if◌then◌else◌, ℕ, ◌==◌, List, [], ◌∷◌, ◌++◌, codes}

-- a text and its line feed
abbrev pub fed : List ℕ → List ℕ
fed text = text ++ codes "\n"

-- a byte in front of the first line
abbrev pub with_byte : ℕ → List (List ℕ) → List (List ℕ)
with_byte b [] = (b ∷ []) ∷ []
with_byte b (line ∷ lines) = (b ∷ line) ∷ lines

-- The lines of a trace: each is the bytes up to and with a line feed; a last piece without one is a line too.
abbrev pub trace_lines : List ℕ → List (List ℕ)
trace_lines [] = []
trace_lines (b ∷ bytes) = if b == 10 then (b ∷ []) ∷ trace_lines bytes else with_byte b (trace_lines bytes)

-- the first line of a trace
abbrev pub first_line : List ℕ → List ℕ
first_line [] = []
first_line (b ∷ bytes) = if b == 10 then b ∷ [] else b ∷ first_line bytes

-- lines one after the other
abbrev pub joined_lines : List (List ℕ) → List ℕ
joined_lines [] = []
joined_lines (line ∷ lines) = line ++ joined_lines lines
