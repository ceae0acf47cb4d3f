-- The agents by number: the policy, then those of every run.
use Rattle.std.proofs.Common.{◌≡◌, ◌≤◌, ◌+◌, ◌==◌, ℕ, zero, suc, false, ◌∷◌, length, map, drop, refl, ap, ◌∙◌, arith}
use Rattle.std.specs.List.{range_with_len}
use Rattle.std.proofs.lemmas.Bool.Decides.{nat_tests}
use Rattle.wdf_base.specs.declared.plan.Plan.{Plan}
use Rattle.wdf_model.specs.agents.IdlePolicy.{policy_at}
use Rattle.wdf_dev.specs.Agents.{agent_at}
use Rattle.wdf_idle.specs.Agents.{idle_agent_at}
use Rattle.wdf_idle.specs.declared.idle_agent.IdleAgent.TheVariants as agent

later : (a : ℕ) → 1 ≤ a → (a == 0) ≡ false
later a h = grind (arith, nat_tests)

usual_at : (plan : Plan) (a : ℕ) → 1 ≤ a → agent.Usual (agent_at plan a) ≡ idle_agent_at plan a
usual_at plan a h = rw (later a h) refl

usual_from : (plan : Plan) (n a : ℕ) → 1 ≤ a → map agent.Usual (map (agent_at plan) (range_with_len a n)) ≡ map (idle_agent_at plan) (range_with_len a n)
usual_from plan zero a h = refl
usual_from plan (suc n) a h =
    ap (λ x. x ∷ map agent.Usual (map (agent_at plan) (range_with_len (a + 1) n))) (usual_at plan a h)
    ∙ ap (λ xs. idle_agent_at plan a ∷ xs) (usual_from plan n (a + 1) (omega arith))

counted_on : (plan : Plan) (n m : ℕ) → m ≡ suc n
    → agent.Policy (policy_at plan) ∷ map agent.Usual (drop 1 (map (agent_at plan) (range_with_len 0 m))) ≡ map (idle_agent_at plan) (range_with_len 0 m)
counted_on plan n m h = rw (h, usual_from plan n 1 (omega arith)) refl

pub numbered : (plan : Plan)
    → agent.Policy (policy_at plan) ∷ map agent.Usual (drop 1 (map (agent_at plan) (range_with_len 0 (1 + length plan.agents)))) ≡ map (idle_agent_at plan) (range_with_len 0 (1 + length plan.agents))
numbered plan = counted_on plan (length plan.agents) (1 + length plan.agents) (omega arith)
