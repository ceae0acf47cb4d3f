use Rattle.wdf_tokens.proofs.ShortWords.{context_short}
use Rattle.wdf_tokens.proofs.word_tokens.context_token.Goals as goal

pub word_token-requires : goal.word_token-requires
word_token-requires c = rw c.context_word.ensures (context_short c.args.x)
