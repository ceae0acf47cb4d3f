-- It is the text by its definition.
use Rattle.wdf_explain.specs.Stories.{ended_text}
use Rattle.wdf_explain.proofs.fault.push_ended.Goals as goal

pub returns : goal.returns
unfolding ended_text
returns c = c.push_numbered.ensures
