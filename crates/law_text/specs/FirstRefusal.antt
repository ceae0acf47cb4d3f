-- The first refusal of a text, as a relation: the lines before it are read, and this is what is wrong after them.
use Rattle.std.specs.Prelude.{◌≡◌, ◌⊎◌, ℕ, zero, suc, ◌+◌, ◌<◌, ◌==◌, true, false, List, [], ◌∷◌, ◌++◌, length, drop, map, Option, Some, Result, Ok, Err, IsTrue}
use Rattle.std.specs.List.{list_all}
use Rattle.wdf_scene.specs.declared.line.NumberedLine.{NumberedLine}
use Rattle.wdf_scene.specs.Blocks.{Position, front, may_stand, openers_after}
use Rattle.wdf_scene.specs.Blocks as blocks
use Rattle.wdf_scene.specs.Written.{Written, WrittenLine, is_written, line_at, lines_at}
use Rattle.wdf_tokens.specs.declared.lexer.TokenFault.{TokenFault}
use Rattle.wdf_tokens.specs.declared.lexer.TokenFault.TheVariants as fault
use Rattle.wdf_tokens.specs.declared.token.Token.{Token}
use Rattle.wdf_tokens.specs.Tokens.{is_plain, piece_of, token_at, line_reading, lines_of}
use Rattle.wdf_scene_lines.specs.Spelling.{written_tokens}
use Rattle.wdf_parse.specs.declared.refusal.ParseRefusal.{ParseRefusal}
use Rattle.wdf_parse.specs.declared.refusal.ParseRefusal.TheVariants as refusal
use Rattle.wdf_parse.specs.Standing.{first_number}
use Rattle.wdf_parse.specs.StandsFor.{token_lines, spelled_line, version_tokens, version_lines}
use Rattle.wdf_parse.specs.Texts.{is_at_front}

-- ---- lines that are read

-- the numbers of the lines that opened the blocks that are open, innermost first, after these lines
abbrev pub openers_from : List ℕ → List NumberedLine → List ℕ
openers_from openers [] = openers
openers_from openers (l ∷ ls) = openers_from (openers_after openers l.number l.form) ls

-- some lines are spelled by lines of the language, each of which may come where it does; `version 2` may come in front
pub record AreRead (lines : List (List ℕ)) : Type 0 where
  pub version : ℕ
  pub known : (version ≡ 1) ⊎ (version ≡ 2)
  -- the number of the line `version 2`
  pub first : ℕ
  pub ws : List WrittenLine
  pub tokens : token_lines 1 lines ≡ Some (version_lines version first ++ map spelled_line ws)
  pub written : IsTrue (list_all (λ w. is_written w.written) ws)
  -- where the next line is
  pub position : Position
  pub stand : blocks.after_lines (Some (front version)) (map (λ l. l.form) (lines_at 0 ws)) ≡ Some position

-- the blocks that are open after them
abbrev pub open_lines : (lines : List (List ℕ)) → AreRead lines → List ℕ
open_lines lines r = openers_from [] (lines_at 0 r.ws)

-- a line of a text, with its number, after lines that are read
pub record HasLine (text : List ℕ) (number : ℕ) : Type 0 where
  pub before : List (List ℕ)
  pub line : List ℕ
  pub after : List (List ℕ)
  pub are : lines_of text ≡ before ++ line ∷ after
  pub counted : number ≡ length before + 1
  pub read : AreRead before

-- ---- the bytes and the tokens of a line

-- a blank, a comment or a token, and no fault
abbrev pub IsFine : Result (Option Token) TokenFault → Type 0
IsFine (Ok t) = Unit {0}
IsFine (Err f) = ⊥

-- from this column on so many blanks and tokens, each as long as it can be, lead to another column and to these bytes
abbrev pub Reaches : ℕ → ℕ → List ℕ → ℕ → List ℕ → Type 0
Reaches zero column bytes there rest = (column ≡ there) × (bytes ≡ rest)
Reaches (suc pieces) column bytes there rest =
    (0 < length bytes) × IsFine (token_at column (piece_of bytes).content) × Reaches pieces (column + (piece_of bytes).size) (drop (piece_of bytes).size bytes) there rest

-- at this column of a line, after whole blanks and tokens, is this fault: no token begins there, or a number is too large
pub record IsStuck (line : List ℕ) (column : ℕ) (f : TokenFault) : Type 0 where
  pub pieces : ℕ
  pub rest : List ℕ
  pub reached : Reaches pieces 1 line column rest
  pub filled : 0 < length rest
  pub is : token_at column (piece_of rest).content ≡ Err f

-- ---- refusals

-- line `number` has a byte that no text has
pub record HasForeignByte (text : List ℕ) (number : ℕ) : Type 0 where
  pub at : HasLine text number
  pub foreign : list_all is_plain at.line ≡ false

-- its bytes are those of texts, and at this column no token begins, or a number is too large
pub record HasBadPiece (text : List ℕ) (number column : ℕ) (f : TokenFault) : Type 0 where
  pub at : HasLine text number
  pub plain : IsTrue (list_all is_plain at.line)
  pub stuck : IsStuck at.line column f

-- it has tokens, and no line of the language that they spell may come there; `version 2` may come only in front
pub record HasBadLine (text : List ℕ) (number : ℕ) : Type 0 where
  pub at : HasLine text number
  pub tokens : List Token
  pub are : line_reading at.line ≡ Ok tokens
  pub filled : 0 < length tokens
  pub none : (w : Written) → IsTrue (is_written w) → written_tokens w ≡ tokens → may_stand at.read.position (line_at 0 w) ≡ false
  pub no_version : tokens ≡ version_tokens → is_at_front at.read.position ≡ false

-- all lines are read, and the first three lines of a scenario aren't all there
pub record EndsEarly (text : List ℕ) (number : ℕ) : Type 0 where
  pub read : AreRead (lines_of text)
  pub early : (read.position.headers == 3) ≡ false
  pub past : number ≡ length (lines_of text) + 1

-- all lines are read, and line `number` opened the innermost block that is open at the end
pub record EndsInside (text : List ℕ) (number : ℕ) : Type 0 where
  pub read : AreRead (lines_of text)
  pub whole : (read.position.headers == 3) ≡ true
  pub opener : first_number (open_lines (lines_of text) read) ≡ Some number

-- the first refusal of a text
abbrev pub IsFirstRefusal : List ℕ → ParseRefusal → Type 0
IsFirstRefusal text (refusal.NotAscii number) = HasForeignByte text number
IsFirstRefusal text (refusal.BadToken number column) = HasBadPiece text number column (fault.BadToken column)
IsFirstRefusal text (refusal.NumberTooLarge number column) = HasBadPiece text number column (fault.NumberTooLarge column)
IsFirstRefusal text (refusal.BadLine number) = HasBadLine text number ⊎ EndsEarly text number
IsFirstRefusal text (refusal.Unclosed number) = EndsInside text number
IsFirstRefusal text refusal.Memory = ⊥
