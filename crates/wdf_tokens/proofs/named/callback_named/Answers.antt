use Rattle.std.proofs.Common.{◌∙◌, ap}
use Rattle.wdf_tokens.specs.Named.{callback_named}
use Rattle.wdf_tokens.proofs.named.callback_named.Goals as goal

pub returns : goal.returns
unfolding callback_named
returns c = c.from_word.ensures ∙ ap callback_named c.bytes.ensures.value
