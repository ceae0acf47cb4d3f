-- What is told is of the case's plan.
use Rattle.std.proofs.Common.{ap, ◌∙◌}
use Rattle.wdf_base.specs.declared.plan.Plan.{Plan}
use Rattle.wdf_dev.specs.Agents.{agent_meaning}
use Rattle.wdf_tries.specs.Tries.{kind_of}
use Rattle.wdf_shrink.proofs.told.told_of_core.Goals as goal

pub returns : goal.returns
returns c = record {
  run = c.args.core.now.journal;
  picked = c.requires.picked;
  kind_is = (rw c.as_slice.ensures at c.in_ok-kind.ensures) ∙ ap (λ (plan : Plan). kind_of c.args.case.now.expectations plan agent_meaning c.args.core.now.journal) c.requires.plan;
  events_is = c.journal_len.ensures.length;
}
