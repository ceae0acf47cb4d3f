-- The word of the status is between.
use Rattle.wdf_explain.proofs.standing.push_closing.Goals as goal

pub returns : goal.returns
returns c = rw c.status_bytes.ensures at c.push_three.ensures
