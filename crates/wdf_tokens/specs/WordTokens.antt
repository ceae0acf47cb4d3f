-- The tokens of words.
use Rattle.std.specs.Prelude.{length, nat_le, if◌then◌else◌}
use Rattle.wdf_base.specs.declared.call.Callback.{Callback}
use Rattle.wdf_base.specs.Words.{callback_word}
use Rattle.wdf_tokens.specs.declared.keyword.Keyword.{Keyword}
use Rattle.wdf_tokens.specs.declared.token.Token.{Token}
use Rattle.wdf_tokens.specs.declared.token.Token.TheVariants as token
use Rattle.wdf_tokens.specs.Keywords.{keyword_word}

-- the token of a keyword
abbrev pub word : Keyword → Token
word k = token.Word (keyword_word k)

-- the token of a callback's name, which may be longer than a declared name
abbrev pub callback_token : Callback → Token
callback_token c = if nat_le (length (callback_word c)) 32 then token.Word (callback_word c) else token.LongName c
