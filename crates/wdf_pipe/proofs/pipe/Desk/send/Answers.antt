-- A push keeps the rule. The pipe isn't full, since it holds no more than what was sent.
use Rattle.wdf_pipe.proofs.Pipes.{sends, knows_sent}
use Rattle.wdf_pipe.proofs.pipe.Desk.send.Goals as goal

pub push_as-requires-clause-rule : goal.push_as-requires-clause-rule
push_as-requires-clause-rule g c = (sends _ _ _ _ c.requires.sends, knows_sent _ _ c.requires.sends)
