-- The program's agents of runs in which idle devices sleep have the policy, so their runs keep the law.
use Rattle.std.proofs.Common.{◌≡◌, refl, ap, ℕ, true, List, Option, Some, None, slice_get, take}
use Rattle.wdf_base.specs.declared.plan.Plan.{Plan}
use Rattle.wdf_base.specs.declared.event.Event.{Event}
use Rattle.wdf_base.specs.Resolved.{IsResolved}
use Rattle.wdf_model.specs.rules.Ready.{IsRunOf}
use Rattle.wdf_model.specs.agents.IdlePolicy.{IdlePolicy, policy_after, policy_due}
use Rattle.wdf_idle.specs.Agents.{idle_meaning, idle_agent_after, idle_agent_due}
use Rattle.wdf_idle.specs.declared.idle_agent.IdleAgent.{IdleAgent}
use Rattle.wdf_idle.specs.declared.idle_agent.IdleAgent.TheVariants as agent
use Rattle.law_idle.specs.Law.{keeps_idle_law}
use Rattle.law_idle.specs.Policies.{HasPolicy}
use Rattle.law_idle.proofs.InTime.{idle_law_at_each}

abbrev policy_of : IdleAgent → Option IdlePolicy
policy_of (agent.Policy p) = Some p
policy_of (agent.Usual a) = None

hears : (a : IdleAgent) (p : IdlePolicy) (e : Event) → policy_of a ≡ Some p → policy_of (idle_agent_after a e) ≡ Some (policy_after p e)
hears (agent.Policy p) q e is = ap (λ x. Some (policy_after x e)) (let same : p ≡ q = cc in same)
hears (agent.Usual a) p e is = absurd (let z : ⊥ = cc in z)

posts : (a : IdleAgent) (p : IdlePolicy) → policy_of a ≡ Some p → idle_agent_due a ≡ policy_due p
posts (agent.Policy p) q is = ap policy_due (let same : p ≡ q = cc in same)
posts (agent.Usual a) p is = absurd (let z : ⊥ = cc in z)

has_policy : HasPolicy idle_meaning policy_of
has_policy = record { begins = λ plan. refl; hears = hears; posts = posts }

pub idle_runs_keep_law : (plan : Plan) (run : List Event) (k : ℕ) (e : Event) → IsResolved plan → IsRunOf plan idle_meaning run
    → slice_get run k ≡ Some e → keeps_idle_law plan (take k run) e ≡ true
idle_runs_keep_law plan run k e resolved is_run at = idle_law_at_each plan idle_meaning policy_of has_policy run resolved is_run k e at
