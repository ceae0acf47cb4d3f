-- Tokens that have a spelling.
use Rattle.std.specs.Prelude.{ℕ, ◌^◌, Bool, true, false, ◌&&◌, nat_lt, nat_le, List, [], ◌∷◌, length}
use Rattle.std.specs.Char.{is_ascii_alphabetic}
use Rattle.std.specs.List.{list_all}
use Rattle.wdf_base.specs.Words.{callback_word}
use Rattle.wdf_tokens.specs.declared.token.Token.{Token}
use Rattle.wdf_tokens.specs.declared.token.Token.TheVariants as token
use Rattle.wdf_tokens.specs.Tokens.{is_name_byte}

-- a letter, then letters, digits and `_`
abbrev pub is_word : List ℕ → Bool
is_word [] = false
is_word (b ∷ bytes) = is_ascii_alphabetic b && list_all is_name_byte (b ∷ bytes)

-- a number below 2 ^ 64, a word of at most 32 bytes, the name of a callback that is longer, or a mark
abbrev pub is_token : Token → Bool
is_token (token.Number n) = nat_lt n (2 ^ 64)
is_token (token.Word w) = is_word w && nat_le (length w) 32
is_token (token.LongName c) = is_word (callback_word c) && nat_lt 32 (length (callback_word c))
is_token _ = true
