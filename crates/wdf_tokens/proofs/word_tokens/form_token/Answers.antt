use Rattle.wdf_tokens.proofs.ShortWords.{form_short}
use Rattle.wdf_tokens.proofs.word_tokens.form_token.Goals as goal

pub word_token-requires : goal.word_token-requires
word_token-requires c = rw c.form_word.ensures (form_short c.args.x)
