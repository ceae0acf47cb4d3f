use Rattle.wdf_parse.proofs.ReadBack.{read_back}
use Rattle.wdf_parse.proofs.Uniqueness.{stands_read}
use Rattle.wdf_parse.proofs.laws.printed_is_read_back.Goals as goal

pub returns : goal.returns
returns c = λ scene h. read_back c.args.text.now scene (stands_read c.args.text.now scene h)
