use Rattle.std.proofs.Common.{◌∙◌, ap}
use Rattle.wdf_tokens.specs.Named.{call_named}
use Rattle.wdf_tokens.proofs.named.call_named.Goals as goal

pub returns : goal.returns
unfolding call_named
returns c = c.from_word.ensures ∙ ap call_named c.bytes.ensures.value
