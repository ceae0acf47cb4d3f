-- The lines of a scenario's text, and the tokens of a line.
use Rattle.std.specs.Prelude.{◌≡◌, ℕ, ◌-◌, zero, suc, option_map, List, [], ◌∷◌, length, Bool, ◌||◌, ◌&&◌, not, ◌==◌, nat_le, Option, Some, None, Result, Ok, Err, if◌then◌else◌, slice_index}
use Rattle.std.specs.Char.{is_ascii_digit, is_ascii_alphabetic}
use Rattle.std.specs.List.{list_all, take_while}
use Rattle.wdf_base.specs.declared.call.Callback.{Callback}
use Rattle.wdf_base.specs.declared.script.Operator.{Operator}
use Rattle.wdf_base.specs.declared.script.Operator.TheVariants as operator
use Rattle.wdf_base.specs.Words.{callback_of}
use Rattle.wdf_text.specs.Decimals.{small_number}
use Rattle.wdf_tokens.specs.declared.token.Token.{Token}
use Rattle.wdf_tokens.specs.declared.token.Token.TheVariants as token
use Rattle.wdf_tokens.specs.declared.lexer.TokenFault.{TokenFault}
use Rattle.wdf_tokens.specs.declared.lexer.TokenFault.TheVariants.{NotAscii, BadToken, NumberTooLarge}
use Rattle.wdf_tokens.specs.declared.lexer.LexError.{LexError}
use Rattle.wdf_tokens.specs.declared.lexer.LexError.TheVariants.{Fault, Memory}
use Rattle.wdf_tokens.specs.declared.lexer.Content.{Content}
use Rattle.wdf_tokens.specs.declared.lexer.Content.TheVariants.{Blank, Whole, Foreign, TooLarge}
use Rattle.wdf_tokens.specs.declared.lexer.Piece.{Piece}

-- a byte of a text: tab, LF, CR, and the printed bytes from space to tilde
abbrev pub is_plain : ℕ → Bool
is_plain b = b == 9 || b == 10 || b == 13 || (nat_le 32 b && nat_le b 126)

-- space, tab and CR are between tokens
abbrev pub is_blank : ℕ → Bool
is_blank b = b == 32 || b == 9 || b == 13

-- a byte of a name after its first letter
abbrev pub is_name_byte : ℕ → Bool
is_name_byte b = is_ascii_alphabetic b || is_ascii_digit b || b == 95

-- a piece of a line
abbrev pub piece : ℕ → Content → Piece
piece size content = record { size = size; content = content }

-- a number is too large from 2 ^ 64 on
abbrev pub number_content : Option ℕ → Content
number_content (Some n) = Whole (token.Number n)
number_content None = TooLarge

-- a name has at most 32 bytes; a longer one is a token only if it is a callback's
abbrev pub long_content : Option Callback → Content
long_content (Some c) = Whole (token.LongName c)
long_content None = Foreign

unfoldable pub long_name : List ℕ → Content
long_name name = long_content (callback_of name)

abbrev pub name_content : List ℕ → Content
name_content name = if nat_le (length name) 32 then Whole (token.Word name) else long_name name

-- a number, from its digits
abbrev pub digits_piece : List ℕ → Piece
digits_piece digits = piece (length digits) (number_content (small_number digits))

-- a keyword or a name, from its letters
abbrev pub letters_piece : List ℕ → Piece
letters_piece letters = piece (length letters) (name_content letters)

-- the operator that one mark writes
abbrev pub operator_of : ℕ → Option Operator
operator_of b =
    if b == 43 then Some operator.Add
    else (if b == 45 then Some operator.Subtract
    else (if b == 42 then Some operator.Multiply
    else (if b == 47 then Some operator.Divide
    else (if b == 37 then Some operator.Remainder
    else (if b == 38 then Some operator.BitAnd
    else (if b == 124 then Some operator.BitOr
    else (if b == 94 then Some operator.BitXor
    else (if b == 60 then Some operator.Below
    else None))))))))

-- the token that one mark writes
abbrev pub mark_token : ℕ → Option Token
mark_token b =
    if b == 40 then Some token.Open
    else (if b == 41 then Some token.Close
    else (if b == 61 then Some token.Assign
    else option_map token.Infix (operator_of b)))

-- the token that a mark and a mark `=` after it write
abbrev pub pair_token : ℕ → ℕ → Option Token
pair_token b next =
    if next == 61 then (if b == 61 then Some (token.Infix operator.Equals)
    else (if b == 33 then Some (token.Infix operator.Differs)
    else (if b == 60 then Some (token.Infix operator.AtMost)
    else None)))
    else None

-- two marks where they write a token, else one
abbrev pub marks_piece : Option Token → Option Token → Piece
marks_piece (Some pair) mark = piece 2 (Whole pair)
marks_piece None (Some mark) = piece 1 (Whole mark)
marks_piece None None = piece 1 Foreign

-- the piece that a line's bytes begin with: a blank, a comment to the line's end, or the longest number, name or mark
abbrev pub piece_of : List ℕ → Piece
piece_of bytes =
    if is_blank (slice_index bytes 0) then piece 1 Blank
    else (if slice_index bytes 0 == 35 then piece (length bytes) Blank
    else (if is_ascii_digit (slice_index bytes 0) then digits_piece (take_while is_ascii_digit bytes)
    else (if is_ascii_alphabetic (slice_index bytes 0) then letters_piece (take_while is_name_byte bytes)
    else marks_piece (pair_token (slice_index bytes 0) (slice_index bytes 1)) (mark_token (slice_index bytes 0)))))

-- the token of a piece at this column, if it is one and no blank
abbrev pub token_at : ℕ → Content → Result (Option Token) TokenFault
token_at column Blank = Ok None
token_at column (Whole token) = Ok (Some token)
token_at column Foreign = Err (BadToken column)
token_at column TooLarge = Err (NumberTooLarge column)

-- what is read of a piece, and of the bytes after it
abbrev pub with_token : Result (Option Token) TokenFault → Result (List Token) TokenFault → Result (List Token) TokenFault
with_token (Ok None) rest = rest
with_token (Ok (Some token)) (Ok tokens) = Ok (token ∷ tokens)
with_token (Ok (Some token)) (Err fault) = Err fault
with_token (Err fault) rest = Err fault

-- the tokens of a line's bytes from this column on, the first `skip` of which belong to the piece before
abbrev pub tokens_from : ℕ → ℕ → List ℕ → Result (List Token) TokenFault
tokens_from column skip [] = Ok []
tokens_from column (suc skip) (b ∷ bytes) = tokens_from (suc column) skip bytes
tokens_from column zero (b ∷ bytes) =
    with_token (token_at column (piece_of (b ∷ bytes)).content) (tokens_from (suc column) ((piece_of (b ∷ bytes)).size - 1) bytes)

-- the tokens of a line without its LF, or its first fault: a byte that is allowed nowhere comes before the others
abbrev pub line_reading : List ℕ → Result (List Token) TokenFault
line_reading line = if list_all is_plain line then tokens_from 1 0 line else Err NotAscii

-- what an error says of a reading: nothing for out of memory, else its fault
abbrev pub IsFaultOf : Result (List Token) TokenFault → LexError → Type 0
IsFaultOf reading (Fault fault) = reading ≡ Err fault
IsFaultOf reading Memory = Unit {0}

-- a byte in front of the first line
abbrev pub with_byte : ℕ → List (List ℕ) → List (List ℕ)
with_byte b [] = (b ∷ []) ∷ []
with_byte b (line ∷ lines) = (b ∷ line) ∷ lines

-- a byte that ends no line
abbrev pub is_inside : ℕ → Bool
is_inside b = not (b == 10)

-- the lines of a text: each ends at an LF, the last may end at the end of the text
abbrev pub lines_of : List ℕ → List (List ℕ)
lines_of [] = []
lines_of (b ∷ bytes) = if b == 10 then [] ∷ lines_of bytes else with_byte b (lines_of bytes)
