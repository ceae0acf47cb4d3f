use Rattle.wdf_tokens.proofs.ShortWords.{access_short}
use Rattle.wdf_tokens.proofs.word_tokens.access_token.Goals as goal

pub word_token-requires : goal.word_token-requires
word_token-requires c = rw c.access_word.ensures (access_short c.args.x)
