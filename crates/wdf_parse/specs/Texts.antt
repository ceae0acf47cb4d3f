-- How a text is read: line by line, to the end or to its first refusal.
use Rattle.std.specs.Prelude.{◌≡◌, ℕ, suc, ◌+◌, ◌==◌, ◌&&◌, Bool, true, false, List, [], ◌∷◌, ◌++◌, length, Option, Some, None, Result, Ok, Err, if◌then◌else◌}
use Rattle.wdf_scene.specs.declared.scene.Scene.{Scene}
use Rattle.wdf_scene.specs.Blocks.{Position, may_stand}
use Rattle.wdf_scene.specs.Written.{Written, line_at, nodes_at, picks_in}
use Rattle.wdf_tokens.specs.declared.keyword.Keyword.{Keyword}
use Rattle.wdf_tokens.specs.declared.keyword.Keyword.TheVariants as keyword
use Rattle.wdf_tokens.specs.declared.lexer.TokenFault.{TokenFault}
use Rattle.wdf_tokens.specs.declared.lexer.TokenFault.TheVariants as fault
use Rattle.wdf_tokens.specs.declared.token.Token.{Token}
use Rattle.wdf_tokens.specs.declared.token.Token.TheVariants as token
use Rattle.wdf_tokens.specs.Keywords.{keyword_of}
use Rattle.wdf_tokens.specs.Tokens.{line_reading, lines_of}
use Rattle.wdf_scene_lines.specs.Building.{next_node}
use Rattle.wdf_scene_lines.specs.Reading.{read_written}
use Rattle.wdf_parse.specs.declared.reader.Reader.{Reader}
use Rattle.wdf_parse.specs.declared.refusal.ParseRefusal.{ParseRefusal}
use Rattle.wdf_parse.specs.declared.refusal.ParseRefusal.TheVariants as refusal
use Rattle.wdf_parse.specs.Standing.{start, standing_after, first_number}

-- before the first line of a text of this version
abbrev pub opening : ℕ → Reader
opening v = record { builder = record { version = v; lines = []; exprs = [] }; place = start v }

-- one line more
abbrev pub with_written : Reader → ℕ → Written → Reader
with_written r number w = record {
  builder = record r.builder {
    lines = r.builder.lines ++ record { number = number; form = line_at (next_node r.builder) w; picks = picks_in w } ∷ [];
    exprs = r.builder.exprs ++ nodes_at (next_node r.builder) w;
  };
  place = standing_after r.place number (line_at (next_node r.builder) w);
}

-- the line, if there is one and it may come there
abbrev pub line_taken : Reader → ℕ → Option Written → Option Reader
line_taken r number None = None
line_taken r number (Some w) =
    if may_stand r.place.position (line_at (next_node r.builder) w) then Some (with_written r number w) else None

-- `version 2`
abbrev pub version_mark : Option Keyword → ℕ → Bool
version_mark (Some keyword.Version) n = n == 2
version_mark _ n = false

abbrev pub is_version : List Token → Bool
is_version (token.Word w ∷ token.Number n ∷ []) = version_mark (keyword_of w) n
is_version _ = false

-- no line was seen, and no version
abbrev pub is_at_front : Position → Bool
is_at_front p = (p.version == 1) && (p.headers == 0)

-- the tokens of a line: `version 2` in front of all others, or a line that may come there
abbrev pub tokens_taken : Reader → ℕ → List Token → Option Reader
tokens_taken r number ts =
    if is_version ts && is_at_front r.place.position then Some (opening 2) else line_taken r number (read_written ts)

abbrev pub or_bad_line : ℕ → Option Reader → Result Reader ParseRefusal
or_bad_line number None = Err (refusal.BadLine number)
or_bad_line number (Some r) = Ok r

-- the refusal of a fault in this line
abbrev pub refused : ℕ → TokenFault → ParseRefusal
refused number fault.NotAscii = refusal.NotAscii number
refused number (fault.BadToken col) = refusal.BadToken number col
refused number (fault.NumberTooLarge col) = refusal.NumberTooLarge number col

-- after a line: its bytes, then its tokens, then its form; a line without tokens counts, and changes nothing
abbrev pub after_tokens : Reader → ℕ → Result (List Token) TokenFault → Result Reader ParseRefusal
after_tokens r number (Ok []) = Ok r
after_tokens r number (Ok (t ∷ ts)) = or_bad_line number (tokens_taken r number (t ∷ ts))
after_tokens r number (Err f) = Err (refused number f)

unfoldable pub after_line : Reader → ℕ → List ℕ → Result Reader ParseRefusal
after_line r number line = after_tokens r number (line_reading line)

-- after some lines, the first of which has this number
abbrev pub after_lines : Result Reader ParseRefusal → ℕ → List (List ℕ) → Result Reader ParseRefusal
after_lines (Err e) number lines = Err e
after_lines (Ok r) number [] = Ok r
after_lines (Ok r) number (line ∷ lines) = after_lines (after_line r number line) (suc number) lines

-- at the end no block is open
abbrev pub closed : Option ℕ → Scene → Result Scene ParseRefusal
closed None scene = Ok scene
closed (Some opener) scene = Err (refusal.Unclosed opener)

-- at the end the first three lines were seen; `past` is one past the last line
abbrev pub at_end : ℕ → Reader → Result Scene ParseRefusal
at_end past r = if r.place.position.headers == 3 then closed (first_number r.place.openers) r.builder else Err (refusal.BadLine past)

abbrev pub finished : ℕ → Result Reader ParseRefusal → Result Scene ParseRefusal
finished past (Ok r) = at_end past r
finished past (Err e) = Err e

-- the scene of a text, or its first refusal
unfoldable pub reading : List ℕ → Result Scene ParseRefusal
reading text = finished (length (lines_of text) + 1) (after_lines (Ok (opening 1)) 1 (lines_of text))

-- an error gives the refusal, or out of memory
abbrev pub IsRefusalOf : {A : Type 0} → Result A ParseRefusal → ParseRefusal → Type 0
IsRefusalOf r refusal.Memory = Unit {0}
IsRefusalOf r e = r ≡ Err e

-- an answer says whether some tokens are taken
abbrev pub AreTaken : Option Reader → Bool → Reader → Type 0
AreTaken None false new = Unit {0}
AreTaken (Some r) true new = new ≡ r
AreTaken None true new = ⊥
AreTaken (Some r) false new = ⊥
