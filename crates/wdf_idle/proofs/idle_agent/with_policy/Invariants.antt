-- The agents so far are the policy and those that were handed out but the first.
use Rattle.std.proofs.Common.{◌≡◌, ◌==◌, ◌∷◌, length, map, drop}
use Rattle.wdf_idle.specs.declared.idle_agent.IdleAgent.TheVariants as agent
use Rattle.wdf_idle.proofs.idle_agent.with_policy.Given as goal

abbrev pub invariant-loop-agent : goal.invariant-loop-agent
invariant-loop-agent l = (l.first ≡ (length l.yielded == 0)) × (l.all.items ≡ agent.Policy l.fn.policy ∷ map agent.Usual (drop 1 l.yielded))
