-- The agent whose post is asked for, or one agent more is passed.
use Rattle.std.proofs.Common.{◌≡◌, ◌+◌, ◌-◌, ◌<◌, ◌≤◌, ◌∙◌, sym, length, subst, Some, slice_get, arith}
use Rattle.wdf_model.specs.declared.enums.Group.TheVariants as group
use Rattle.wdf_offers.specs.Search.{offered_from}
use Rattle.wdf_offers.proofs.Passing.{Passed}
use Rattle.wdf_offers.proofs.AgentsPassed.{post_counts, post_passes, post_there, posts_end}
use Rattle.wdf_offers.proofs.posts.poster_at.Goals as goal
use Rattle.wdf_offers.proofs.posts.poster_at.Goals.{then-may_come+else-left-eq0, else-may_come}

pub returns-then-left-eq0 : goal.returns-then-left-eq0
returns-then-left-eq0 g c =
    let m = g.A.Agent.meaning in
    let S = c.args.parts.now in
    let all = offered_from c.args.plan.now m S group.Posts 0 in
    let below : c.loop-agent.agent < length S.agents = omega (arith, c.loop-agent-test.true, c.agent_len-agent-end.ensures) in
    let left = c.if-left-eq0.true in
    let same : c.args.k - c.loop-agent.left ≡ c.args.k = omega arith in
    let there = post_there c.args.plan.now m S c.requires.agents all c.loop-agent.agent (c.args.k - c.loop-agent.left) c.loop-agent.invariant.passed below (sym c.may_come.ensures ∙ c.if-may_come.true) in
    (there.0, subst (λ n. slice_get all n ≡ Some there.0) same there.1, there.2)

pub loop-agent-preserved : goal.loop-agent-preserved
loop-agent-preserved g c =
    let m = g.A.Agent.meaning in
    let S = c.args.parts.now in
    let all = offered_from c.args.plan.now m S group.Posts 0 in
    let few = c.loop-agent.invariant.few in
    let below : c.loop-agent.agent < length S.agents = omega (arith, c.loop-agent-test.true, c.agent_len-agent-end.ensures) in
    elim c.if-may_come.branch [
      | then-may_come+else-left-eq0 w ↦
          let some = w.if-left-eq0.false in
          let count : c.args.k - c.loop-agent.left + 1 ≡ c.args.k - (c.loop-agent.left - 1) = omega arith in
          rw w.left-is (record {
            passed = subst (λ n. Passed all (offered_from c.args.plan.now m S group.Posts (c.loop-agent.agent + 1)) n) count
                (post_counts c.args.plan.now m S c.requires.agents all c.loop-agent.agent (c.args.k - c.loop-agent.left) c.loop-agent.invariant.passed below (sym c.may_come.ensures ∙ w.if-may_come.true));
            few = omega arith;
          })
      | else-may_come w ↦
          rw w.left-is (record {
            passed = post_passes c.args.plan.now m S c.requires.agents all c.loop-agent.agent (c.args.k - c.loop-agent.left) c.loop-agent.invariant.passed below (sym c.may_come.ensures ∙ w.if-may_come.false);
            few = few;
          })
    ]

pub returns : goal.returns
returns g c =
    let m = g.A.Agent.meaning in
    let S = c.args.parts.now in
    let few = c.loop-agent.invariant.few in
    let over : length S.agents ≤ c.loop-agent.agent = omega (arith, c.loop-agent-test.false, c.agent_len-agent-end.ensures) in
    let count = posts_end c.args.plan.now m S c.requires.agents (offered_from c.args.plan.now m S group.Posts 0) c.loop-agent.agent (c.args.k - c.loop-agent.left) c.loop-agent.invariant.passed over in
    omega arith
