-- When a scene stands for a text.
use Rattle.std.specs.Prelude.{◌≡◌, ℕ, suc, ◌==◌, List, [], ◌∷◌, ◌++◌, map, Option, Some, None, option_map, Result, Ok, Err, if◌then◌else◌}
use Rattle.wdf_scene.specs.declared.line.NumberedLine.{NumberedLine}
use Rattle.wdf_scene.specs.declared.scene.Scene.{Scene}
use Rattle.wdf_scene.specs.Written.{WrittenLine, scene_of, AreLines}
use Rattle.wdf_tokens.specs.declared.keyword.Keyword.TheVariants as keyword
use Rattle.wdf_tokens.specs.declared.lexer.TokenFault.{TokenFault}
use Rattle.wdf_tokens.specs.declared.token.Token.{Token}
use Rattle.wdf_tokens.specs.declared.token.Token.TheVariants as token
use Rattle.wdf_tokens.specs.WordTokens.{word}
use Rattle.wdf_tokens.specs.Tokens.{line_reading, lines_of}
use Rattle.wdf_scene_lines.specs.Spelling.{written_tokens}

-- the tokens of a line, with its number
pub record TokenLine : Type 0 where
  pub number : ℕ
  pub tokens : List Token

-- a line in front of others; one without tokens isn't kept
abbrev pub with_token_line : ℕ → Result (List Token) TokenFault → Option (List TokenLine) → Option (List TokenLine)
with_token_line number (Ok []) rest = rest
with_token_line number (Ok (t ∷ ts)) rest = option_map (λ ls. record { number = number; tokens = t ∷ ts } ∷ ls) rest
with_token_line number (Err f) rest = None

-- the lines that have tokens, if each line has a reading; the first line has this number
abbrev pub token_lines : ℕ → List (List ℕ) → Option (List TokenLine)
token_lines number [] = Some []
token_lines number (line ∷ lines) = with_token_line number (line_reading line) (token_lines (suc number) lines)

-- the tokens that spell a line
abbrev pub spelled_line : WrittenLine → TokenLine
spelled_line w = record { number = w.number; tokens = written_tokens w.written }

-- the line `version 2`, which a text of version 2 has in front
abbrev pub version_tokens : List Token
version_tokens = word keyword.Version ∷ token.Number 2 ∷ []

abbrev pub version_lines : ℕ → ℕ → List TokenLine
version_lines version number = if version == 2 then record { number = number; tokens = version_tokens } ∷ [] else []

-- a scene stands for a text: the text's lines are spelled by the scene's, each of which may come where it does
pub record StandsFor (text : List ℕ) (scene : Scene) : Type 0 where
  -- the number of the line `version 2`
  pub first : ℕ
  pub ws : List WrittenLine
  pub tokens : token_lines 1 (lines_of text) ≡ Some (version_lines scene.version first ++ map spelled_line ws)
  pub is : scene ≡ scene_of scene.version ws
  pub lines : AreLines scene.version ws

-- a scene without its line numbers
abbrev pub without_number : NumberedLine → NumberedLine
without_number l = record l { number = 0 }

abbrev pub without_numbers : Scene → Scene
without_numbers s = record s { lines = map without_number s.lines }
