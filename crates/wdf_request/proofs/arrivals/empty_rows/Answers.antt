use Rattle.std.proofs.Common.{◌≡◌, ◌+◌, length, replicate, ap, ◌∙◌, arith, vec_len}
use Rattle.wdf_request.proofs.Rows.{rows_none, rows_more, rows_all}
use Rattle.wdf_request.proofs.arrivals.empty_rows.Goals as goal

pub loop-agent-init : goal.loop-agent-init
loop-agent-init c = (c.in_ok-rows.ensures.items ∙ rows_none c.args.plan.now, c.in_ok-rows.ensures.len, c.in_ok-rows.ensures.exact ∙ c.agent_len.ensures)

pub push_reserved-requires : goal.push_reserved-requires
push_reserved-requires c = omega (arith, c.loop-agent.invariant.1, c.loop-agent.invariant.2)

pub loop-agent-preserved : goal.loop-agent-preserved
loop-agent-preserved c =
    let grown : vec_len c.push_reserved.new.self ≡ c.loop-agent.agent + 1 = omega (arith, c.loop-agent.invariant.1, c.push_reserved.ensures.len) in (
      rows_more c.args.plan.now c.loop-agent.agent c.loop-agent.rows.items c.push_reserved.new.self.items c.in-Ok.row c.loop-agent.invariant.0 (c.in-Ok.ensures ∙ ap (λ n. replicate (n + 1) 0) c.post_len.ensures) c.push_reserved.ensures.items,
      grown,
      c.push_reserved.ensures.capacity ∙ c.loop-agent.invariant.2,
    )

pub returns : goal.returns
returns c =
    let whole : c.loop-agent.agent ≡ 1 + length c.args.plan.now.agents = omega (arith, c.agent_len.ensures, c.loop-agent.auto.agent-end) in
    c.loop-agent.invariant.0 ∙ rows_all c.args.plan.now c.loop-agent.agent whole
