-- No line of a whole run is bad.
use Rattle.wdf_replay.proofs.Complete.{complete}
use Rattle.wdf_replay.proofs.replaying.replay.Goals as goal

pub returns-clause-each : goal.returns-clause-each
returns-clause-each g c = λ run whole. complete c.args.core.now.plan g.A.Agent.meaning c.requires.resolved c.args.trace.now run c.check_lines.result whole c.check_lines.ensures.verdict
