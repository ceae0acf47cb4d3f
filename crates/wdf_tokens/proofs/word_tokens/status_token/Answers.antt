use Rattle.wdf_tokens.proofs.ShortWords.{status_short}
use Rattle.wdf_tokens.proofs.word_tokens.status_token.Goals as goal

pub word_token-requires : goal.word_token-requires
word_token-requires c = rw c.word.ensures (status_short c.args.x)
