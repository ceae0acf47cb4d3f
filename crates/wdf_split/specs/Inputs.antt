-- The input of `replay`: a scenario, a line `trace`, and a trace.
use Rattle.std.specs.Prelude.{if◌then◌else◌, ℕ, ◌==◌, ◌&&◌, Bool, true, false, not, List, [], ◌∷◌, codes, drop, take}
use Rattle.std.specs.List.{list_all, take_while}
use Rattle.std.specs.Str.{bytes_eq}
use Rattle.wdf_tokens.specs.Tokens.{is_blank, is_plain}
use Rattle.wdf_run_text.specs.Lines.{trace_lines, joined_lines}

-- a byte within a line: any but the line feed
abbrev pub is_within : ℕ → Bool
is_within b = not (b == 10)

-- the text has no token: it is blanks, and perhaps a comment
abbrev pub is_idle : List ℕ → Bool
is_idle [] = true
is_idle (b ∷ bytes) = if is_blank b then is_idle bytes else b == 35

-- the text begins with the word `trace`, and no token comes after it
abbrev pub is_trace_first : List ℕ → Bool
is_trace_first text = bytes_eq (take 5 text) (codes "trace") && is_idle (drop 5 text)

-- the text's only token is `trace`: blanks may come before it, blanks and a comment after it
abbrev pub is_trace_alone : List ℕ → Bool
is_trace_alone [] = false
is_trace_alone (b ∷ bytes) = if is_blank b then is_trace_alone bytes else is_trace_first (b ∷ bytes)

-- the line's only token is `trace`, and each byte is one that a scenario may have
unfoldable pub is_mark : List ℕ → Bool
is_mark line = list_all is_plain (take_while is_within line) && is_trace_alone (take_while is_within line)

-- the lines before the first such line: all of them, where there is none
abbrev pub before_mark : List (List ℕ) → List (List ℕ)
before_mark [] = []
before_mark (line ∷ lines) = if is_mark line then [] else line ∷ before_mark lines

-- the lines after it: none, where there is none
abbrev pub after_mark : List (List ℕ) → List (List ℕ)
after_mark [] = []
after_mark (line ∷ lines) = if is_mark line then lines else after_mark lines

-- The scenario of an input: the bytes before its first line `trace`.
unfoldable pub scenario_in : List ℕ → List ℕ
scenario_in input = joined_lines (before_mark (trace_lines input))

-- The trace of an input: the bytes after that line.
unfoldable pub trace_in : List ℕ → List ℕ
trace_in input = joined_lines (after_mark (trace_lines input))
