use Rattle.wdf_tokens.proofs.ShortWords.{call_short}
use Rattle.wdf_tokens.proofs.word_tokens.call_token.Goals as goal

pub word_token-requires : goal.word_token-requires
word_token-requires c = rw c.word.ensures (call_short c.args.x)
