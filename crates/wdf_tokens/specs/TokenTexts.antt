-- The bytes of tokens: one space between two.
use Rattle.std.specs.Prelude.{ℕ, List, [], ◌∷◌, ◌++◌, decimal, codes}
use Rattle.wdf_base.specs.Words.{callback_word}
use Rattle.wdf_scene.specs.Words.{operator_word}
use Rattle.wdf_tokens.specs.declared.token.Token.{Token}
use Rattle.wdf_tokens.specs.declared.token.Token.TheVariants as token

-- the bytes of a token
abbrev pub token_text : Token → List ℕ
token_text (token.Number n) = decimal n
token_text (token.Word n) = n
token_text (token.LongName c) = callback_word c
token_text token.Open = codes "("
token_text token.Close = codes ")"
token_text token.Assign = codes "="
token_text (token.Infix op) = operator_word op

-- tokens after another one, and the line's end
abbrev pub rest_text : List Token → List ℕ
rest_text [] = 10 ∷ []
rest_text (t ∷ ts) = 32 ∷ (token_text t ++ rest_text ts)

-- a line with these tokens
abbrev pub line_text : List Token → List ℕ
line_text [] = 10 ∷ []
line_text (t ∷ ts) = token_text t ++ rest_text ts

-- the tokens after another one, without the line's end
abbrev pub rest_bytes : List Token → List ℕ
rest_bytes [] = []
rest_bytes (t ∷ ts) = 32 ∷ (token_text t ++ rest_bytes ts)

-- a line with these tokens, without its end
abbrev pub line_bytes : List Token → List ℕ
line_bytes [] = []
line_bytes (t ∷ ts) = token_text t ++ rest_bytes ts
