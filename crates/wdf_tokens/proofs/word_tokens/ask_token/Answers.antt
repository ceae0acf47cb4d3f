use Rattle.wdf_tokens.proofs.ShortWords.{ask_short}
use Rattle.wdf_tokens.proofs.word_tokens.ask_token.Goals as goal

pub word_token-requires : goal.word_token-requires
word_token-requires c = rw c.word.ensures (ask_short c.args.x)
