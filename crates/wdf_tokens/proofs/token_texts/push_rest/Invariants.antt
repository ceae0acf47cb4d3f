use Rattle.std.proofs.Common.{◌≡◌, ◌++◌, drop}
use Rattle.wdf_tokens.specs.TokenTexts.{rest_text}
use Rattle.wdf_tokens.proofs.token_texts.push_rest.Given as goal

abbrev pub invariant-loop-token : goal.invariant-loop-token
invariant-loop-token l = l.out.items ++ rest_text (drop l.token-index l.tokens) ≡ l.fn.out.items ++ rest_text l.tokens
