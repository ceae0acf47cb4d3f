-- The policy is the first, and the others are those of every run.
use Rattle.std.proofs.Common.{◌≡◌, ◌+◌, ◌∷◌, length, map, drop, subst}
use Rattle.std.specs.List.{range_with_len}
use Rattle.std.specs.Result.{IfOk}
use Rattle.wdf_idle.specs.Agents.{idle_agent_at}
use Rattle.wdf_idle.specs.declared.idle_agent.IdleAgent.TheVariants as agent
use Rattle.wdf_idle.proofs.Numbered.{numbered}
use Rattle.wdf_idle.proofs.idle_agent.idle_agents.Goals as goal

pub returns : goal.returns
returns c =
    let plan = c.args.plan.now in
    let same : agent.Policy c.in_ok-policy.policy ∷ map agent.Usual (drop 1 c.in_ok-usual.usual.items) ≡ map (idle_agent_at plan) (range_with_len 0 (1 + length plan.agents)) = rw (c.in_ok-policy.ensures, c.in_ok-usual.ensures) (numbered plan) in
    subst (λ x. IfOk c.with_policy.result (λ all. all.items ≡ x)) same c.with_policy.ensures
