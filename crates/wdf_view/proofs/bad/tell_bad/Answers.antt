-- The line of a bad trace.
use Rattle.std.proofs.Common.{◌∙◌}
use Rattle.wdf_view.proofs.bad.tell_bad.Goals as goal

pub returns-in-BadTrace-clause-said : goal.returns-in-BadTrace-clause-said
returns-in-BadTrace-clause-said g c = rw c.in-BadTrace.is (rw (c.bytes.ensures ∙ c.refused_line.ensures) at c.say.ensures.said)
