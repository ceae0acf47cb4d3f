-- One agent more is asked.
use Rattle.std.proofs.Common.{sym, ◌∙◌, ◌<◌, ◌≤◌, length, arith}
use Rattle.wdf_model.specs.declared.enums.Group.TheVariants as group
use Rattle.wdf_offers.specs.Search.{offered_from}
use Rattle.wdf_offers.proofs.AgentsPassed.{post_counts, post_passes, posts_end}
use Rattle.wdf_offers.proofs.posts.posts_len.Goals as goal
use Rattle.wdf_offers.proofs.posts.posts_len.Goals.{then-may_come, else-may_come}

pub loop-agent-preserved : goal.loop-agent-preserved
loop-agent-preserved g c =
    let m = g.A.Agent.meaning in
    let S = c.args.parts.now in
    let all = offered_from c.args.plan.now m S group.Posts 0 in
    let few = c.loop-agent.invariant.few in
    let below : c.loop-agent.agent < length S.agents = omega (arith, c.loop-agent-test.true, c.agent_len-agent-end.ensures) in
    elim c.if-may_come.branch [
      | then-may_come w ↦
          rw w.count-is (record {
            passed = post_counts c.args.plan.now m S c.requires.agents all c.loop-agent.agent c.loop-agent.count c.loop-agent.invariant.passed below (sym c.may_come.ensures ∙ w.if-may_come.true);
            few = omega arith;
          })
      | else-may_come w ↦
          rw w.count-is (record {
            passed = post_passes c.args.plan.now m S c.requires.agents all c.loop-agent.agent c.loop-agent.count c.loop-agent.invariant.passed below (sym c.may_come.ensures ∙ w.if-may_come.false);
            few = omega arith;
          })
    ]

pub returns-clause-length : goal.returns-clause-length
returns-clause-length g c =
    let m = g.A.Agent.meaning in
    let S = c.args.parts.now in
    let over : length S.agents ≤ c.loop-agent.agent = omega (arith, c.loop-agent-test.false, c.agent_len-agent-end.ensures) in
    sym (posts_end c.args.plan.now m S c.requires.agents (offered_from c.args.plan.now m S group.Posts 0) c.loop-agent.agent c.loop-agent.count c.loop-agent.invariant.passed over)
