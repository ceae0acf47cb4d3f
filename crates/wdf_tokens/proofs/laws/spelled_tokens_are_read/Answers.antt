use Rattle.wdf_tokens.proofs.Respelling.{line_is_read}
use Rattle.wdf_tokens.proofs.laws.spelled_tokens_are_read.Goals as goal

pub returns : goal.returns
returns c = λ ts fit. line_is_read ts fit
