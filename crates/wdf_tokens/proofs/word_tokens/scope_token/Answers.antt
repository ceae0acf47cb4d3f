use Rattle.wdf_tokens.proofs.ShortWords.{scope_short}
use Rattle.wdf_tokens.proofs.word_tokens.scope_token.Goals as goal

pub word_token-requires : goal.word_token-requires
word_token-requires c = rw c.scope_word.ensures (scope_short c.args.x)
