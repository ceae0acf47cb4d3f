use Rattle.wdf_tokens.proofs.ShortWords.{plain_kind_short}
use Rattle.wdf_tokens.proofs.word_tokens.plain_kind_token.Goals as goal

pub word_token-requires : goal.word_token-requires
word_token-requires c = rw c.plain_kind_word.ensures (plain_kind_short c.args.x)
