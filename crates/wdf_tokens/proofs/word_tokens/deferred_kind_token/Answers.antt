use Rattle.wdf_tokens.proofs.ShortWords.{deferred_kind_short}
use Rattle.wdf_tokens.proofs.word_tokens.deferred_kind_token.Goals as goal

pub word_token-requires : goal.word_token-requires
word_token-requires c = rw c.deferred_kind_word.ensures (deferred_kind_short c.args.x)
