-- What the verdict says of the trace.
use Rattle.std.proofs.Common.{subst}
use Rattle.wdf_dev.specs.Agents.{agent_meaning}
use Rattle.wdf_replay.specs.Verdicts.{GivesVerdict}
use Rattle.wdf_view.specs.Causes.{IsAcceptedBy}
use Rattle.wdf_view.proofs.Shown.{always_ok, memory_cause}
use Rattle.wdf_view.proofs.judged.draw_core.Goals as goal

pub returns-in-Accepted : goal.returns-in-Accepted
returns-in-Accepted c = record {
  formed = c.or_no_memory.ensures.formed;
  accepted = always_ok (IsAcceptedBy c.args.core.now.plan c.args.trace.now) c.or_no_memory.result
      (c.in-Accepted.field-0, subst (GivesVerdict c.args.core.now.plan agent_meaning c.args.trace.now) c.in-Accepted.is c.replay.ensures.verdict);
  refused = memory_cause c.args.core.now.plan c.args.trace.now c.or_no_memory.result c.or_no_memory.ensures.refused;
}

pub returns-in-RefusedAt : goal.returns-in-RefusedAt
returns-in-RefusedAt c = record {
  formed = tt;
  accepted = tt;
  refused = subst (GivesVerdict c.args.core.now.plan agent_meaning c.args.trace.now) c.in-RefusedAt.is c.replay.ensures.verdict;
}
