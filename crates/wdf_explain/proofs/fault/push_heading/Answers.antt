-- It is the text by its definition.
use Rattle.wdf_explain.specs.Stories.{heading_text}
use Rattle.wdf_explain.proofs.fault.push_heading.Goals as goal

pub returns : goal.returns
unfolding heading_text
returns c = c.push_between.ensures
