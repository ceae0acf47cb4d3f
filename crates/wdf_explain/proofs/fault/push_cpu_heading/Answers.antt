-- It is the text by its definition.
use Rattle.wdf_explain.specs.Stories.{cpu_heading}
use Rattle.wdf_explain.proofs.fault.push_cpu_heading.Goals as goal

pub returns : goal.returns
unfolding cpu_heading
returns c = c.push_numbered.ensures
