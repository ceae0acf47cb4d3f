-- Agents of which the first is the idle policy.
use Rattle.std.specs.Prelude.{◌≡◌, Option, Some}
use Rattle.wdf_base.specs.Meaning.{Meaning}
use Rattle.wdf_base.specs.declared.plan.Plan.{Plan}
use Rattle.wdf_base.specs.declared.event.Event.{Event}
use Rattle.wdf_model.specs.agents.IdlePolicy.{IdlePolicy, policy_at, policy_after, policy_due}

-- own: seen through `policy`, agent 0 begins as the policy, hears of events as it does, and posts what it has due
pub record HasPolicy {A : Type 0} (m : Meaning A) (policy : A → Option IdlePolicy) : Type 0 where
  pub begins : (plan : Plan) → policy (m.begin plan 0) ≡ Some (policy_at plan)
  pub hears : (a : A) (p : IdlePolicy) (e : Event) → policy a ≡ Some p → policy (m.fold a e) ≡ Some (policy_after p e)
  pub posts : (a : A) (p : IdlePolicy) → policy a ≡ Some p → m.due a ≡ policy_due p
