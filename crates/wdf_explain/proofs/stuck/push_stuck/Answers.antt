-- It is the text by its definition.
use Rattle.wdf_explain.specs.Stories.{stuck_text}
use Rattle.wdf_explain.proofs.stuck.push_stuck.Goals as goal

pub returns : goal.returns
unfolding stuck_text
returns c = c.push_numbered.ensures
