use Rattle.wdf_tokens.proofs.ShortWords.{level_short}
use Rattle.wdf_tokens.proofs.word_tokens.level_token.Goals as goal

pub word_token-requires : goal.word_token-requires
word_token-requires c = rw c.level_word.ensures (level_short c.args.x)
